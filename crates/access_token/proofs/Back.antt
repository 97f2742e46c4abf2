-- A payload's tree says the facts that it was made of.
use Rattle.std.proofs.Common.{◌≡◌, ◌≤◌, ◌^◌, ℕ, zero, suc, ◌==◌, true, false, ◌&&◌, List, [], ◌∷◌, length, refl, ◌∙◌, ap, arith, Option, None, Some, option_map, codes, nat_le, nat_lt}
use Rattle.std.specs.List.{All, AllByRecursion, list_all, slice_split}
use Rattle.std.specs.Fmt.{decimal}
use Rattle.std.specs.Str.Parse.{digits_value}
use Rattle.std.proofs.lemmas.Bool.Decides.{nat_tests, Decides-ltb}
use Rattle.std.proofs.lemmas.Bool.{leb-true}
use Rattle.std.proofs.lemmas.List.Sums.{AllPass-from_list_all}
use Rattle.std.proofs.lemmas.Fmt.{decimal_is_IsNumeral}
use Rattle.std.proofs.lemmas.List.Splits.{slice_split_none, slice_split_at}
use Rattle.serde_json.specs.Data.{Data, number, unsigned, string, object, no_members, member}
use Rattle.base_types.specs.Forms.{has_size}
use Rattle.json_text.specs.Document.{item_texts}
use Rattle.base_types.specs.Reading.{◌>>=◌}
use Rattle.iam_names.specs.Forms.{is_plain_byte, is_scope_word, is_account}
use Rattle.iam_names.specs.PoolName.{pool_text, is_pool_name}
use Rattle.iam_names.specs.declared.pool_name.PoolName.{PoolName}
use Rattle.iam_names.specs.declared.who.Who.{Who}
use Rattle.iam_names.specs.declared.who.Who.TheVariants.{Outside, Account}
use Rattle.iam_names.proofs.ReadBackLemmas.{pool_of_text-pool_text}
use Rattle.access_token.specs.declared.facts.Facts.{Facts}
use Rattle.access_token.specs.declared.parties.Parties.{Parties}
use Rattle.access_token.specs.declared.wif.Wif.{Wif}
use Rattle.access_token.specs.Forms.{is_name, is_attribute, is_who, is_identity, are_words}
use Rattle.boundary.specs.Exact.{IsExactBoundary}
use Rattle.boundary.specs.Written.{optional, items, boundary_data, listed_boundary}
use Rattle.boundary.proofs.Back.{boundary_back}
use Rattle.boundary.proofs.WrittenParts.{all_back, each_back}
use Rattle.access_token.specs.Payload.{nested, words_text, last_words, attributes_data, who_data, wif_data, payload_data}
use Rattle.access_token.specs.Parts.{formed, names_in, account_in, pool_in, scope_in, attributes_in, outside_in, who_in, parties_in, wif_in, facts_in}
use Rattle.access_token.proofs.Formed.{AreFormed, facts_of}
use Rattle.access_token.proofs.Options.{both, formed-some}

texts_back : (xs : List (List ℕ)) → item_texts (items string xs) ≡ Some xs
texts_back [] = refl
texts_back (x ∷ xs) = ap (λ (o : Option (List (List ℕ))). option_map (λ ys. x ∷ ys) o) (texts_back xs)

act_step : (n : ℕ) (name : List ℕ) (names : List (List ℕ)) (rest : Option Data) → names_in (codes "act") n rest ≡ Some names
    → names_in (codes "act") (suc n) (Some (object (optional (codes "act") rest (member (codes "sub") (string name) no_members)))) ≡ Some (name ∷ names)
act_step n name names None is = ap (λ (o : Option (List (List ℕ))). option_map (λ more. name ∷ more) o) is
act_step n name names (Some d) is = ap (λ (o : Option (List (List ℕ))). option_map (λ more. name ∷ more) o) is

act_back : (n : ℕ) (names : List (List ℕ)) → length names ≤ n → names_in (codes "act") n (nested (codes "act") names) ≡ Some names
act_back n [] few = refl
act_back zero (name ∷ names) few = absurd (omega arith)
act_back (suc n) (name ∷ names) few = act_step n name names (nested (codes "act") names) (act_back n names (omega arith))

may_act_step : (n : ℕ) (name : List ℕ) (names : List (List ℕ)) (rest : Option Data) → names_in (codes "may_act") n rest ≡ Some names
    → names_in (codes "may_act") (suc n) (Some (object (optional (codes "may_act") rest (member (codes "sub") (string name) no_members)))) ≡ Some (name ∷ names)
may_act_step n name names None is = ap (λ (o : Option (List (List ℕ))). option_map (λ more. name ∷ more) o) is
may_act_step n name names (Some d) is = ap (λ (o : Option (List (List ℕ))). option_map (λ more. name ∷ more) o) is

may_act_back : (n : ℕ) (names : List (List ℕ)) → length names ≤ n → names_in (codes "may_act") n (nested (codes "may_act") names) ≡ Some names
may_act_back n [] few = refl
may_act_back zero (name ∷ names) few = absurd (omega arith)
may_act_back (suc n) (name ∷ names) few = may_act_step n name names (nested (codes "may_act") names) (may_act_back n names (omega arith))

-- ---- words

plain_free : (byte : ℕ) → is_plain_byte byte ≡ true → (byte == 32) ≡ false
plain_free byte h = grind (arith, nat_tests)

word_free : (word : List ℕ) → is_scope_word word ≡ true → All (λ byte. (byte == 32) ≡ false) word
word_free word h =
    let plain : list_all is_plain_byte word ≡ true = (both (has_size 1 128 word) (list_all is_plain_byte word) h).1 in
    λ k d within. plain_free _ (AllPass-from_list_all is_plain_byte word plain k d within)

split_back : (words : List (List ℕ)) → list_all is_scope_word words ≡ true → 1 ≤ length words → slice_split (λ byte. byte == 32) (words_text words) ≡ words
split_back [] all some = absurd (omega arith)
split_back (word ∷ []) all some = slice_split_none (λ byte. byte == 32) word (word_free word (both (is_scope_word word) true all).0)
split_back (word ∷ next ∷ words) all some =
    let parts = both (is_scope_word word) (list_all is_scope_word (next ∷ words)) all in
    slice_split_at (λ byte. byte == 32) word 32 (words_text (next ∷ words)) (word_free word parts.0) refl
    ∙ ap (λ (l : List (List ℕ)). word ∷ l) (split_back (next ∷ words) parts.1 (omega arith))

scope_back : (words : List (List ℕ)) → are_words words ≡ true → scope_in (string (words_text words)) ≡ Some words
scope_back words h =
    let some = both (nat_le 1 (length words)) (nat_le (length words) 16 && list_all is_scope_word words) h in
    let all = both (nat_le (length words) 16) (list_all is_scope_word words) some.1 in
    rw (split_back words all.1 (leb-true 1 (length words) some.0), h) refl

-- ---- the parts

account_back : (account : List ℕ) → is_account account ≡ true → account_in (string account) ≡ Some account
account_back account form = formed-some is_account (Some account) account refl form

pool_back : (pool : PoolName) → is_pool_name pool ≡ true → pool_in (string (pool_text pool)) ≡ Some pool
pool_back pool form = pool_of_text-pool_text pool form

attributes_back : (attributes : List (List ℕ × List ℕ)) → list_all is_attribute attributes ≡ true → attributes_in (attributes_data attributes) ≡ Some attributes
attributes_back [] all = refl
attributes_back (attribute ∷ attributes) all =
    let parts = both (is_attribute attribute) (list_all is_attribute attributes) all in
    rw (parts.0, attributes_back attributes parts.1) refl

outside_back : (pool : PoolName) (identity : _) → is_who (Outside pool identity) ≡ true → outside_in (who_data (Outside pool identity)) ≡ Some (Outside pool identity)
unfolding outside_in who_data
outside_back pool identity h =
    let of_pool = both (is_pool_name pool) (is_identity identity) h in
    let subject = both (has_size 1 127 identity.subject) (list_all (has_size 1 256) identity.groups && list_all is_attribute identity.attributes) of_pool.1 in
    let rest = both (list_all (has_size 1 256) identity.groups) (list_all is_attribute identity.attributes) subject.1 in
    rw (attributes_back identity.attributes rest.1, texts_back identity.groups, rest.0, pool_back pool of_pool.0, subject.0) refl

who_back : (who : Who) → is_who who ≡ true → who_in (who_data who) ≡ Some who
unfolding who_data
who_back (Outside pool identity) h = outside_back pool identity h
who_back (Account account) h = rw h refl

-- ---- the whole

abbrev Texts : Type 0
Texts = List (List ℕ)

-- the parties of the parts that are there
abbrev parties_of : Option Texts → Option Texts → Option (List ℕ) → Option Parties
parties_of act_there may_act_there sub_there = do
  act ← act_there
  may_act ← may_act_there
  sub ← sub_there
  Some (record { sub = sub; act = act; may_act = may_act })

-- the facts of the parts that are there
abbrev joined : Option ℕ → Option ℕ → Option ℕ → Option Parties → Option Wif → Option Facts
joined exp_there iat_there number_there parties_there wif_there = do
  exp ← exp_there
  iat ← iat_there
  whole ← number_there
  parties ← parties_there
  wif ← wif_there
  Some (facts_of exp iat whole parties wif)

-- each boundary is exact
abbrev pub AreExactBounds : Facts → Type 0
AreExactBounds facts = AllByRecursion IsExactBoundary facts.bounds

wif_back : (facts : Facts) → AreFormed facts → AreExactBounds facts
    → wif_in (wif_data facts) ≡ Some (record { who = facts.who; pools = facts.pools; accounts = facts.accounts; scopes = facts.scopes; bounds = facts.bounds })
unfolding wif_in wif_data
wif_back facts is bounds =
    rw (
      each_back string account_in is_account account_back facts.accounts is.accounts,
      all_back boundary_data listed_boundary IsExactBoundary boundary_back facts.bounds bounds,
      each_back (λ pool. string (pool_text pool)) pool_in is_pool_name pool_back facts.pools is.pools,
      each_back (λ words. string (words_text words)) scope_in are_words scope_back facts.scopes is.scopes,
      is.scopes_some,
      who_back facts.who is.who,
    ) refl

-- an optional member's names, each of its form
abbrev act_of : Option Data → Option Texts
act_of there = formed (list_all is_name) (names_in (codes "act") 8 there)

abbrev may_act_of : Option Data → Option Texts
may_act_of there = formed (list_all (has_size 1 1024)) (names_in (codes "may_act") 8 there)

joined_back : (facts : Facts) (act may_act : Option Texts) → AreFormed facts → AreExactBounds facts → act ≡ Some facts.act → may_act ≡ Some facts.may_act
    → joined (formed (λ seconds. nat_lt seconds (2 ^ 53)) (Some facts.exp)) (formed (λ seconds. nat_lt seconds (2 ^ 53)) (Some facts.iat))
    (formed (λ n. nat_lt n (2 ^ 32)) (Some (digits_value 10 (decimal facts.number)))) (parties_of act may_act (formed is_name (Some facts.sub)))
    (wif_in (wif_data facts)) ≡ Some facts
joined_back facts act may_act is bounds act_is may_act_is =
    let written : digits_value 10 (decimal facts.number) ≡ facts.number =
    (decimal_is_IsNumeral facts.number (omega (arith, (Decides-ltb facts.number (2 ^ 32)).0 is.number))).1 in
    rw (is.exp, is.iat, written, is.number, act_is, may_act_is, is.sub, wif_back facts is bounds) refl

-- a payload's tree, with the two optional members, the scope and the subject aside
tree : List ℕ → Facts → Option Data → Option Data → List ℕ → Data
tree issuer facts act may_act scope = object (
    optional (codes "act") act (
    member (codes "exp") (number (unsigned facts.exp)) (
    member (codes "iat") (number (unsigned facts.iat)) (
    member (codes "iss") (string issuer) (
    member (codes "jti") (string (decimal facts.number)) (
    optional (codes "may_act") may_act (
    member (codes "scope") (string scope) (
    member (codes "sub") (string facts.sub) (
    member (codes "wif") (wif_data facts) no_members)))))))))

tree_back : (issuer : List ℕ) (facts : Facts) (act may_act : Option Data) (scope : List ℕ) → AreFormed facts → AreExactBounds facts
    → act_of act ≡ Some facts.act → may_act_of may_act ≡ Some facts.may_act → facts_in (tree issuer facts act may_act scope) ≡ Some facts
unfolding tree parties_in facts_in
tree_back issuer facts None None scope is bounds a m = joined_back facts (act_of None) (may_act_of None) is bounds a m
tree_back issuer facts None (Some may) scope is bounds a m = joined_back facts (act_of None) (may_act_of (Some may)) is bounds a m
tree_back issuer facts (Some actor) None scope is bounds a m = joined_back facts (act_of (Some actor)) (may_act_of None) is bounds a m
tree_back issuer facts (Some actor) (Some may) scope is bounds a m = joined_back facts (act_of (Some actor)) (may_act_of (Some may)) is bounds a m

pub facts_back : (issuer : List ℕ) (facts : Facts) → AreFormed facts → AreExactBounds facts → facts_in (payload_data issuer facts) ≡ Some facts
unfolding payload_data tree
facts_back issuer facts is bounds =
    tree_back issuer facts (nested (codes "act") facts.act) (nested (codes "may_act") facts.may_act) (words_text (last_words facts.scopes)) is bounds
    (formed-some (list_all is_name) _ facts.act (act_back 8 facts.act (leb-true (length facts.act) 8 is.act_few)) is.act)
    (formed-some (list_all (has_size 1 1024)) _ facts.may_act (may_act_back 8 facts.may_act (leb-true (length facts.may_act) 8 is.may_act_few)) is.may_act)
