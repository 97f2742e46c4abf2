-- The facts of a tree are of their forms.
use Rattle.std.proofs.Common.{◌≡◌, ◌≤◌, ◌^◌, ℕ, zero, suc, ◌==◌, Bool, true, ◌&&◌, List, [], ◌∷◌, length, Option, None, Some, option_map, option_and_then, refl, sym, ap, ◌∙◌, nat_lt, nat_le, codes, arith}
use Rattle.std.specs.List.{list_all, slice_split}
use Rattle.std.specs.Str.Parse.{digits_value}
use Rattle.std.proofs.lemmas.Bool.{le-leb}
use Rattle.std.proofs.lemmas.Option.{same_Some, cond_some, option_and_then_some}
use Rattle.serde_json.specs.Data.{Data, Members, no_members, member}
use Rattle.serde_json.specs.Find.{get, as_str, as_array, as_object}
use Rattle.json_text.specs.Arrays.{each, list_at}
use Rattle.json_text.specs.Document.{text_at, texts_at, whole_number_at}
use Rattle.base_types.specs.Forms.{passing, has_size}
use Rattle.base_types.specs.Reading.{◌>>=◌}
use Rattle.iam_names.specs.Cuts.{cut_at}
use Rattle.iam_names.specs.Forms.{is_account, is_project, is_id}
use Rattle.iam_names.specs.PoolName.{pool_of, pool_of_text, is_pool_name}
use Rattle.iam_names.specs.declared.pool_name.PoolName.{PoolName}
use Rattle.iam_names.specs.declared.who.Who.{Who}
use Rattle.iam_names.specs.declared.who.Who.TheVariants.{Account}
use Rattle.boundary.specs.Exact.{is_boundary}
use Rattle.boundary.specs.Written.{listed_boundary}
use Rattle.boundary.proofs.Formed.{each-formed, listed_boundary-is}
use Rattle.access_token.specs.declared.facts.Facts.{Facts}
use Rattle.access_token.specs.declared.parties.Parties.{Parties}
use Rattle.access_token.specs.declared.wif.Wif.{Wif}
use Rattle.access_token.specs.Forms.{is_name, is_attribute, is_who, are_words, is_facts}
use Rattle.access_token.specs.Parts.{formed, names_in, act_in, may_act_in, date_in, number_in, sub_in, account_in, words_in, scope_in, scopes_in, pool_in, attributes_in, attributes_at, groups_at, pool_at, subject_at, outside_in, who_by, who_in, parties_in, wif_in, facts_in}
use Rattle.access_token.proofs.Options.{formed-is, option_map_some, bound, all-more}

-- ---- lists

list-all : {A : Type 0} (form : A → Bool) (read : Data → Option A) → ((d : Data) (x : A) → read d ≡ Some x → form x ≡ true)
    → (name : List ℕ) (d : Data) (xs : List A) → list_at read name d ≡ Some xs → list_all form xs ≡ true
list-all form read is name d xs h =
    option_and_then_some (each read) (option_and_then as_array (get name d)) xs h (λ ds there k. (each-formed form read is ds xs k).0)

names-few : (name : List ℕ) (n : ℕ) (o : Option Data) (names : List (List ℕ)) → names_in name n o ≡ Some names → length names ≤ n
names-few name n None names h = omega (arith, ap length (same_Some [] names h))
names-few name zero (Some d) names h = cc
names-few name (suc n) (Some d) names h =
    option_and_then_some (λ x. option_map (λ xs. x ∷ xs) (names_in name n (get name d))) (text_at (codes "sub") d) names h (λ x there k.
    option_map_some (λ xs. x ∷ xs) (names_in name n (get name d)) names k (λ xs is whole.
    omega (arith, names-few name n (get name d) xs is, ap length whole)))

attributes-all : (members : Members) (attributes : List (List ℕ × List ℕ)) → attributes_in members ≡ Some attributes → list_all is_attribute attributes ≡ true
attributes-all no_members attributes h = ap (list_all is_attribute) (sym (same_Some [] attributes h))
attributes-all (member name d members) attributes h =
    let form = λ (value : List ℕ). is_attribute (name, value) in
    option_and_then_some (λ value. option_map (λ more. (name, value) ∷ more) (attributes_in members)) (formed form (as_str d)) attributes h (λ value there k.
    option_map_some (λ more. (name, value) ∷ more) (attributes_in members) attributes k (λ more rest whole.
    ap (list_all is_attribute) (sym whole) ∙ all-more is_attribute (name, value) more (formed-is form (as_str d) value there).1 (attributes-all members more rest)))

-- ---- who

pool_of_text-is : (text : List ℕ) (pool : PoolName) → pool_of_text text ≡ Some pool → is_pool_name pool ≡ true
pool_of_text-is text pool h = cut (cut_at 47 text) h
  where
    cut : (o : Option (List ℕ × List ℕ)) → (o >>= (λ parts. pool_of parts.0 parts.1)) ≡ Some pool → is_pool_name pool ≡ true
    cut None h = cc
    cut (Some parts) h =
        let told = cond_some (is_project parts.0 && is_id parts.1) (record { project = parts.0; pool = parts.1 }) pool h in
        ap is_pool_name (sym told.1) ∙ told.0

pool_in-is : (d : Data) (pool : PoolName) → pool_in d ≡ Some pool → is_pool_name pool ≡ true
pool_in-is d pool h = option_and_then_some pool_of_text (as_str d) pool h (λ text there is. pool_of_text-is text pool is)

outside_in-is : (d : Data) (who : Who) → outside_in d ≡ Some who → is_who who ≡ true
unfolding outside_in
outside_in-is d who h =
    bound _ (attributes_at d) who h (λ attributes attributes_is h.
    bound _ (groups_at d) who h (λ groups groups_is h.
    bound _ (pool_at d) who h (λ pool pool_is h.
    bound _ (subject_at d) who h (λ subject subject_is h.
    let of_attributes : list_all is_attribute attributes ≡ true =
    option_and_then_some attributes_in (option_and_then as_object (get (codes "attributes") d)) attributes attributes_is (λ members there k. attributes-all members attributes k) in
    let of_groups = (formed-is (list_all (has_size 1 256)) (texts_at (codes "groups") d) groups groups_is).1 in
    let of_pool : is_pool_name pool ≡ true = option_and_then_some pool_in (get (codes "pool") d) pool pool_is (λ e there k. pool_in-is e pool k) in
    let of_subject = (formed-is (has_size 1 127) (text_at (codes "subject") d) subject subject_is).1 in
    ap is_who (sym (same_Some _ who h)) ∙ rw (of_pool, of_subject, of_groups, of_attributes) refl))))

who_in-is : (d : Data) (who : Who) → who_in d ≡ Some who → is_who who ≡ true
who_in-is d who h = by (text_at (codes "account") d) h
  where
    by : (o : Option (List ℕ)) → who_by o d ≡ Some who → is_who who ≡ true
    by None h = outside_in-is d who h
    by (Some account) h =
        option_map_some Account (passing is_account account) who h (λ same there whole.
        let told = cond_some (is_account account) account same there in
        ap is_who (sym whole) ∙ ap is_account (sym told.1) ∙ told.0)

-- ---- the facts

-- each form by itself
pub record AreFormed (facts : Facts) : Type 0 where
  pub number : nat_lt facts.number (2 ^ 32) ≡ true
  pub sub : is_name facts.sub ≡ true
  pub iat : nat_lt facts.iat (2 ^ 53) ≡ true
  pub exp : nat_lt facts.exp (2 ^ 53) ≡ true
  pub who : is_who facts.who ≡ true
  pub act_few : nat_le (length facts.act) 8 ≡ true
  pub act : list_all is_name facts.act ≡ true
  pub may_act_few : nat_le (length facts.may_act) 8 ≡ true
  pub may_act : list_all (has_size 1 1024) facts.may_act ≡ true
  pub pools : list_all is_pool_name facts.pools ≡ true
  pub accounts : list_all is_account facts.accounts ≡ true
  pub scopes_some : nat_le 1 (length facts.scopes) ≡ true
  pub scopes : list_all are_words facts.scopes ≡ true
  pub bounds : list_all is_boundary facts.bounds ≡ true

is_facts-from : (facts : Facts) → AreFormed facts → is_facts facts ≡ true
unfolding is_facts
is_facts-from facts f =
    rw (f.number, f.sub, f.iat, f.exp, f.who, f.act_few, f.act, f.may_act_few, f.may_act, f.pools, f.accounts, f.scopes_some, f.scopes, f.bounds) refl

abbrev is_date : ℕ → Bool
is_date seconds = nat_lt seconds (2 ^ 53)

scope_in-is : (d : Data) (words : List (List ℕ)) → scope_in d ≡ Some words → are_words words ≡ true
scope_in-is d words h =
    option_and_then_some words_in (as_str d) words h (λ text there k. (formed-is are_words (Some (slice_split (λ byte. byte == 32) text)) words k).1)

-- the form of each name of the parties
record AreFormedParties (parties : Parties) : Type 0 where
  sub : is_name parties.sub ≡ true
  act_few : nat_le (length parties.act) 8 ≡ true
  act : list_all is_name parties.act ≡ true
  may_act_few : nat_le (length parties.may_act) 8 ≡ true
  may_act : list_all (has_size 1 1024) parties.may_act ≡ true

parties_in-is : (d : Data) (parties : Parties) → parties_in d ≡ Some parties → AreFormedParties parties
unfolding parties_in
parties_in-is d parties h =
    bound _ (act_in d) parties h (λ act act_is h.
    bound _ (may_act_in d) parties h (λ may_act may_act_is h.
    bound _ (sub_in d) parties h (λ sub sub_is h.
    let names = formed-is (list_all is_name) (names_in (codes "act") 8 (get (codes "act") d)) act act_is in
    let actors = formed-is (list_all (has_size 1 1024)) (names_in (codes "may_act") 8 (get (codes "may_act") d)) may_act may_act_is in
    let told : AreFormedParties (record { sub = sub; act = act; may_act = may_act }) = record {
      sub = (formed-is is_name (text_at (codes "sub") d) sub sub_is).1;
      act_few = le-leb (length act) 8 (names-few (codes "act") 8 (get (codes "act") d) act names.0);
      act = names.1;
      may_act_few = le-leb (length may_act) 8 (names-few (codes "may_act") 8 (get (codes "may_act") d) may_act actors.0);
      may_act = actors.1;
    } in
    rw (← same_Some _ parties h) told)))

-- the form of each part of the claim `wif`
record IsFormedWif (wif : Wif) : Type 0 where
  who : is_who wif.who ≡ true
  pools : list_all is_pool_name wif.pools ≡ true
  accounts : list_all is_account wif.accounts ≡ true
  scopes_some : nat_le 1 (length wif.scopes) ≡ true
  scopes : list_all are_words wif.scopes ≡ true
  bounds : list_all is_boundary wif.bounds ≡ true

wif_in-is : (d : Data) (wif : Wif) → wif_in d ≡ Some wif → IsFormedWif wif
unfolding wif_in
wif_in-is d wif h =
    bound _ (list_at account_in (codes "accounts") d) wif h (λ accounts accounts_is h.
    bound _ (list_at listed_boundary (codes "bounds") d) wif h (λ bounds bounds_is h.
    bound _ (list_at pool_in (codes "pools") d) wif h (λ pools pools_is h.
    bound _ (scopes_in d) wif h (λ scopes scopes_is h.
    bound _ (option_and_then who_in (get (codes "who") d)) wif h (λ who who_is h.
    let some = formed-is (λ scopes. nat_le 1 (length scopes)) (list_at scope_in (codes "scopes") d) scopes scopes_is in
    let told : IsFormedWif (record { who = who; pools = pools; accounts = accounts; scopes = scopes; bounds = bounds }) = record {
      who = option_and_then_some who_in (get (codes "who") d) who who_is (λ e there k. who_in-is e who k);
      pools = list-all is_pool_name pool_in pool_in-is (codes "pools") d pools pools_is;
      accounts = list-all is_account account_in (λ e account k. (formed-is is_account (as_str e) account k).1) (codes "accounts") d accounts accounts_is;
      scopes_some = some.1;
      scopes = list-all are_words scope_in scope_in-is (codes "scopes") d scopes some.0;
      bounds = list-all is_boundary listed_boundary listed_boundary-is (codes "bounds") d bounds bounds_is;
    } in
    rw (← same_Some _ wif h) told)))))

-- the facts of their parts
abbrev pub facts_of : ℕ → ℕ → ℕ → Parties → Wif → Facts
facts_of exp iat number parties wif = record {
  number = number;
  sub = parties.sub;
  iat = iat;
  exp = exp;
  act = parties.act;
  may_act = parties.may_act;
  who = wif.who;
  pools = wif.pools;
  accounts = wif.accounts;
  scopes = wif.scopes;
  bounds = wif.bounds;
}

pub facts_in-is : (d : Data) (facts : Facts) → facts_in d ≡ Some facts → is_facts facts ≡ true
unfolding facts_in
facts_in-is d facts h =
    bound _ (date_in (codes "exp") d) facts h (λ exp exp_is h.
    bound _ (date_in (codes "iat") d) facts h (λ iat iat_is h.
    bound _ (number_in d) facts h (λ number number_is h.
    bound _ (parties_in d) facts h (λ parties parties_is h.
    bound _ (option_and_then wif_in (get (codes "wif") d)) facts h (λ wif wif_is h.
    let named = parties_in-is d parties parties_is in
    let used : IsFormedWif wif = option_and_then_some wif_in (get (codes "wif") d) wif wif_is (λ e there k. wif_in-is e wif k) in
    let told : AreFormed (facts_of exp iat number parties wif) = record {
      number = (formed-is (λ n. nat_lt n (2 ^ 32)) (option_map (digits_value 10) (text_at (codes "jti") d)) number number_is).1;
      sub = named.sub;
      iat = (formed-is is_date (whole_number_at (codes "iat") d) iat iat_is).1;
      exp = (formed-is is_date (whole_number_at (codes "exp") d) exp exp_is).1;
      who = used.who;
      act_few = named.act_few;
      act = named.act;
      may_act_few = named.may_act_few;
      may_act = named.may_act;
      pools = used.pools;
      accounts = used.accounts;
      scopes_some = used.scopes_some;
      scopes = used.scopes;
      bounds = used.bounds;
    } in
    ap is_facts (sym (same_Some _ facts h)) ∙ is_facts-from _ told)))))
