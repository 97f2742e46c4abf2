-- The facts whose parts stand in a payload's tree, each of its form.
use Rattle.std.specs.Prelude.{ℕ, zero, suc, ◌^◌, ◌==◌, Bool, List, [], ◌∷◌, length, Option, None, Some, option_map, option_and_then, nat_le, nat_lt, codes}
use Rattle.std.specs.List.{list_all, slice_split}
use Rattle.std.specs.Str.Parse.{digits_value}
use Rattle.serde_json.specs.Data.{Data, Members, no_members, member}
use Rattle.serde_json.specs.Find.{get, as_str, as_object}
use Rattle.json_text.specs.Arrays.{list_at}
use Rattle.json_text.specs.Document.{text_at, texts_at, whole_number_at}
use Rattle.base_types.specs.Forms.{passing, has_size}
use Rattle.base_types.specs.Reading.{◌>>=◌}
use Rattle.iam_names.specs.Forms.{is_account}
use Rattle.iam_names.specs.PoolName.{pool_of_text}
use Rattle.iam_names.specs.declared.pool_name.PoolName.{PoolName}
use Rattle.iam_names.specs.declared.who.Who.{Who}
use Rattle.iam_names.specs.declared.who.Who.TheVariants.{Outside, Account}
use Rattle.boundary.specs.Written.{listed_boundary}
use Rattle.access_token.specs.declared.parties.Parties.{Parties}
use Rattle.access_token.specs.declared.facts.Facts.{Facts}
use Rattle.access_token.specs.declared.wif.Wif.{Wif}
use Rattle.access_token.specs.Forms.{is_name, is_attribute, are_words}

-- what is there, where it is of the form
abbrev pub formed : {A : Type 0} → (A → Bool) → Option A → Option A
formed form there = option_and_then (passing form) there

-- names inside one another, at most so many
abbrev pub names_in : List ℕ → ℕ → Option Data → Option (List (List ℕ))
names_in name n None = Some []
names_in name zero (Some d) = None
names_in name (suc n) (Some d) = option_and_then (λ x. option_map (λ xs. x ∷ xs) (names_in name n (get name d))) (text_at (codes "sub") d)

-- the actors' names
abbrev pub act_in : Data → Option (List (List ℕ))
act_in d = formed (list_all is_name) (names_in (codes "act") 8 (get (codes "act") d))

-- those who may act
abbrev pub may_act_in : Data → Option (List (List ℕ))
may_act_in d = formed (list_all (has_size 1 1024)) (names_in (codes "may_act") 8 (get (codes "may_act") d))

-- seconds below 2^53
abbrev pub date_in : List ℕ → Data → Option ℕ
date_in name d = formed (λ seconds. nat_lt seconds (2 ^ 53)) (whole_number_at name d)

-- the number that `jti` writes, below 2^32
abbrev pub number_in : Data → Option ℕ
number_in d = formed (λ number. nat_lt number (2 ^ 32)) (option_map (digits_value 10) (text_at (codes "jti") d))

-- the subject's name
abbrev pub sub_in : Data → Option (List ℕ)
sub_in d = formed is_name (text_at (codes "sub") d)

-- the account of a text
abbrev pub account_in : Data → Option (List ℕ)
account_in d = formed is_account (as_str d)

-- the pool of a text
abbrev pub pool_in : Data → Option PoolName
pool_in d = option_and_then pool_of_text (as_str d)

-- 1 to 16 scope words with one space between
abbrev pub words_in : List ℕ → Option (List (List ℕ))
words_in text = passing are_words (slice_split (λ byte. byte == 32) text)

-- the scope words of a text
abbrev pub scope_in : Data → Option (List (List ℕ))
scope_in d = option_and_then words_in (as_str d)

-- the scope words of one exchange or more
abbrev pub scopes_in : Data → Option (List (List (List ℕ)))
scopes_in wif = formed (λ scopes. nat_le 1 (length scopes)) (list_at scope_in (codes "scopes") wif)

-- attributes, each of its form
abbrev pub attributes_in : Members → Option (List (List ℕ × List ℕ))
attributes_in no_members = Some []
attributes_in (member name d members) =
    option_and_then (λ value. option_map (λ more. (name, value) ∷ more) (attributes_in members)) (formed (λ value. is_attribute (name, value)) (as_str d))

-- the attributes of an outside identity
abbrev pub attributes_at : Data → Option (List (List ℕ × List ℕ))
attributes_at d = option_and_then attributes_in (option_and_then as_object (get (codes "attributes") d))

-- its groups, of 1 to 256 bytes each
abbrev pub groups_at : Data → Option (List (List ℕ))
groups_at d = formed (list_all (has_size 1 256)) (texts_at (codes "groups") d)

-- its pool
abbrev pub pool_at : Data → Option PoolName
pool_at d = option_and_then pool_in (get (codes "pool") d)

-- its subject, of 1 to 127 bytes
abbrev pub subject_at : Data → Option (List ℕ)
subject_at d = formed (has_size 1 127) (text_at (codes "subject") d)

-- the outside identity of a pool
unfoldable pub outside_in : Data → Option Who
outside_in d = do
  attributes ← attributes_at d
  groups ← groups_at d
  pool ← pool_at d
  subject ← subject_at d
  Some (Outside pool (record { subject = subject; groups = groups; attributes = attributes }))

-- the account of a text, where one is there, and else the outside identity
abbrev pub who_by : Option (List ℕ) → Data → Option Who
who_by None d = outside_in d
who_by (Some account) d = option_map Account (passing is_account account)

-- whom the token is of
abbrev pub who_in : Data → Option Who
who_in d = who_by (text_at (codes "account") d) d

-- whom a token names: its subject, its actors and those who may act
unfoldable pub parties_in : Data → Option Parties
parties_in d = do
  act ← act_in d
  may_act ← may_act_in d
  sub ← sub_in d
  Some (record { sub = sub; act = act; may_act = may_act })

-- the private claim `wif`: what a decision reads
unfoldable pub wif_in : Data → Option Wif
wif_in d = do
  accounts ← list_at account_in (codes "accounts") d
  bounds ← list_at listed_boundary (codes "bounds") d
  pools ← list_at pool_in (codes "pools") d
  scopes ← scopes_in d
  who ← option_and_then who_in (get (codes "who") d)
  Some (record { who = who; pools = pools; accounts = accounts; scopes = scopes; bounds = bounds })

-- the facts of a tree
unfoldable pub facts_in : Data → Option Facts
facts_in d = do
  exp ← date_in (codes "exp") d
  iat ← date_in (codes "iat") d
  number ← number_in d
  parties ← parties_in d
  wif ← option_and_then wif_in (get (codes "wif") d)
  Some (record {
    number = number;
    sub = parties.sub;
    iat = iat;
    exp = exp;
    act = parties.act;
    may_act = parties.may_act;
    who = wif.who;
    pools = wif.pools;
    accounts = wif.accounts;
    scopes = wif.scopes;
    bounds = wif.bounds;
  })
