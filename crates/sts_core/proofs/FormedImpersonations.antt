-- The impersonation that a request asks for has its form.
use Rattle.std.proofs.Common.{◌≡◌, ◌≤◌, ◌∷◌, ◌++◌, [], ℕ, List, Bool, true, false, ◌&&◌, length, refl, subst, arith, length-append}
use Rattle.std.specs.Prelude.{⊤, codes, nat_le, IfOk, IfSome, Option, None, Some, Result, Ok, option_and_then}
use Rattle.std.specs.Fmt.{decimal}
use Rattle.std.specs.List.{list_all}
use Rattle.std.specs.Str.{bytes_eq}
use Rattle.std.specs.Str.Parse.{digits_value}
use Rattle.std.proofs.lemmas.Bool.{and_from, and_parts, leb-true, le-leb}
use Rattle.std.proofs.lemmas.List.Folds.{list_all-append}
use Rattle.std.proofs.lemmas.Option.{option_and_then_some}
use Rattle.base_types.specs.Forms.{passing}
use Rattle.base_types.specs.Steps.{needed}
use Rattle.serde_json.specs.Data.{Data, Items}
use Rattle.serde_json.specs.Find.{as_array, as_str, get}
use Rattle.json_text.specs.Arrays.{count, each, short_array, short_list}
use Rattle.access_token.specs.Forms.{are_words}
use Rattle.boundary.proofs.Formed.{each-formed}
use Rattle.boundary.proofs.Options.{then-passing}
use Rattle.exchange_form.specs.Forms.{object_of}
use Rattle.iam_names.specs.Cuts.{after}
use Rattle.iam_names.specs.Forms.{is_account, is_scope_word}
use Rattle.links.specs.declared.entry.Entry.{Entry}
use Rattle.links.specs.Entries.{IsEntry}
use Rattle.links.specs.Licence.{knows_word}
use Rattle.links.specs.State.{Content}
use Rattle.wif_base.specs.Routes.{before_suffix}
use Rattle.wif_base.specs.declared.request.Request.{Request}
use Rattle.sts_core.specs.Asked.{live_issued}
use Rattle.sts_core.specs.Generated.{delegate_of, delegates_of, generated_for, given, is_lifetime, lifetime_of, scope_of, seconds_of, word_of}
use Rattle.sts_replies.specs.declared.generate_rule.GenerateRule.{GenerateRule}
use Rattle.sts_replies.specs.declared.generate_rule.GenerateRule.TheVariants.{I1, I2, I3, I4, I5, I6, I7}
use Rattle.sts_core.proofs.AskedParts.{after_step, anything, still_formed, where_needed, where_there}

-- ---- lists

pub short_formed : {X : Type 0} (form : X → Bool) (read : Data → Option X) → ((d : Data) (x : X) → read d ≡ Some x → form x ≡ true)
    → (most : ℕ) (d : Data) (xs : List X) → short_list read most d ≡ Some xs → (list_all form xs ≡ true) × (length xs ≤ most)
short_formed form read is most d xs h =
    option_and_then_some (each read) (short_array most d) xs h (λ ds there k.
    let few = (then-passing (λ (found : Items). nat_le (count found) most) (as_array d) ds there).1 in
    let found = each-formed form read is ds xs k in
    (found.0, omega (arith, found.1, leb-true (count ds) most few)))

-- at most 4 service accounts
record AreDelegates (accounts : List (List ℕ)) : Type 0 where
  form : list_all is_account accounts ≡ true
  few : length accounts ≤ 4

delegate_is : (d : Data) (account : List ℕ) → delegate_of d ≡ Some account → is_account account ≡ true
delegate_is d account h =
    (then-passing is_account (option_and_then (after (codes "projects/-/serviceAccounts/")) (as_str d)) account h).1

delegates_by : (d : Data) (found : Option (List (List ℕ))) → short_list delegate_of 4 d ≡ found → IfSome found AreDelegates
delegates_by d None is = tt
delegates_by d (Some accounts) is =
    let are = short_formed is_account delegate_of delegate_is 4 d accounts is in
    record { form = are.0; few = are.1 }

delegates_formed : (d : Option Data) → IfSome (delegates_of d) AreDelegates
delegates_formed None = record { form = refl; few = omega arith }
delegates_formed (Some d) = delegates_by d (short_list delegate_of 4 d) refl

with_one : (accounts : List (List ℕ)) (account : List ℕ) → list_all is_account accounts ≡ true → is_account account ≡ true
    → list_all is_account (accounts ++ account ∷ []) ≡ true
with_one accounts account all one = rw (list_all-append is_account accounts (account ∷ []), all, one) refl

-- ---- what passes a test

passed : {X : Type 0} (test : X → Bool) (x : X) (passes : Bool) → test x ≡ passes → IfSome (passing test x) (λ y. test y ≡ true)
passed test x true is = rw is is
passed test x false is = rw is tt

passing_formed : {X : Type 0} (test : X → Bool) (found : Option X) → IfSome (option_and_then (passing test) found) (λ x. test x ≡ true)
passing_formed test None = tt
passing_formed test (Some x) = passed test x (test x) refl

scope_formed : (c : Content) (d : Option Data) → IfSome (scope_of c d) (λ words. are_words words ≡ true)
scope_formed c d =
    still_formed (list_all (knows_word c)) (option_and_then (passing are_words) (option_and_then (short_list word_of 16) d))
    (λ words. are_words words ≡ true) (passing_formed are_words (option_and_then (short_list word_of 16) d))

pub not_empty : {X : Type 0} (xs : List X) → (xs ≡ [] → ⊥) → 1 ≤ length xs
not_empty [] some = absurd (some refl)
not_empty (x ∷ xs) some = omega arith

word_is : (d : Data) (word : List ℕ) → word_of d ≡ Some word → is_scope_word word ≡ true
word_is d word h = (then-passing is_scope_word (as_str d) word h).1

-- what a list says that isn't empty and whose words are all there
pub scope_said : (c : Content) (d : Data) (words : List (List ℕ)) → short_list word_of 16 d ≡ Some words → 1 ≤ length words
    → list_all (knows_word c) words ≡ true → scope_of c (Some d) ≡ Some words
scope_said c d words read some known =
    let are = short_formed is_scope_word word_of word_is 16 d words read in
    let formed : are_words words ≡ true =
    and_from (nat_le 1 (length words)) (nat_le (length words) 16 && list_all is_scope_word words) (le-leb 1 (length words) some)
    (and_from (nat_le (length words) 16) (list_all is_scope_word words) (le-leb (length words) 16 are.1) are.0) in
    rw (read, formed, known) refl

-- ---- the lifetime

-- 1 to 3,600 seconds
record IsShort (seconds : ℕ) : Type 0 where
  lasts : 1 ≤ seconds
  short : seconds ≤ 3600

is_short : (digits : List ℕ) (seconds : ℕ) → is_lifetime digits seconds ≡ true → IsShort seconds
is_short digits seconds is =
    let first = and_parts (nat_le 1 seconds) (nat_le seconds 3600 && bytes_eq digits (decimal seconds)) is in
    let second = and_parts (nat_le seconds 3600) (bytes_eq digits (decimal seconds)) first.1 in
    record { lasts = leb-true 1 seconds first.0; short = leb-true seconds 3600 second.0 }

weaker : {X : Type 0} (found : Option X) (P Q : X → Type 0) → ((x : X) → P x → Q x) → IfSome found P → IfSome found Q
weaker None P Q implies is = tt
weaker (Some x) P Q implies is = implies x is

seconds_short : (digits : List ℕ) → IfSome (seconds_of digits) IsShort
seconds_short digits =
    let value = digits_value 10 digits in
    weaker (seconds_of digits) (λ seconds. is_lifetime digits seconds ≡ true) IsShort (is_short digits)
    (passed (is_lifetime digits) value (is_lifetime digits value) refl)

lifetime_short : (d : Option Data) → IfSome (lifetime_of d) IsShort
lifetime_short None = record { lasts = omega arith; short = omega arith }
lifetime_short (Some d) =
    where_there (option_and_then (before_suffix (codes "s")) (as_str d)) seconds_of (λ digits. ⊤) IsShort (there _) (λ digits any. seconds_short digits)
  where
    there : (found : Option (List ℕ)) → IfSome found (λ digits. ⊤)
    there None = tt
    there (Some digits) = tt

-- ---- the entry

pub generated_formed : (c : Content) (account : List ℕ) (request : Request) (now : ℕ) → now ≤ 200_000_000_000
    → IfOk (generated_for c account request now) IsEntry
unfolding generated_for
generated_formed c account request now low =
    after_step (needed I1 request.bearer) _ (λ bearer. ⊤) IsEntry (anything _) (λ bearer shown.
    after_step (needed I2 (passing is_account account)) _ (λ target. is_account target ≡ true) IsEntry
    (where_needed I2 (passing is_account account) (λ target. is_account target ≡ true) (passed is_account account (is_account account) refl)) (λ target named.
    after_step (needed I3 (object_of request.body)) _ (λ d. ⊤) IsEntry (anything _) (λ d there.
    let delegates = get (codes "delegates") d in
    after_step (needed I4 (delegates_of (given delegates))) _ AreDelegates IsEntry
    (where_needed I4 (delegates_of (given delegates)) AreDelegates (delegates_formed (given delegates))) (λ accounts are.
    let scope = scope_of c (get (codes "scope") d) in
    after_step (needed I5 scope) _ (λ words. are_words words ≡ true) IsEntry
    (where_needed I5 scope (λ words. are_words words ≡ true) (scope_formed c (get (codes "scope") d))) (λ words formed.
    let lifetime = lifetime_of (given (get (codes "lifetime") d)) in
    after_step (needed I6 lifetime) _ IsShort IsEntry
    (where_needed I6 lifetime IsShort (lifetime_short (given (get (codes "lifetime") d)))) (λ seconds short.
    after_step (needed I7 (live_issued c now bearer)) _ (λ parent. ⊤) IsEntry (anything _) (λ parent live.
    let more = length-append accounts (target ∷ []) in
    record {
      moment = low;
      words = formed;
      some = omega (arith, more);
      few = omega (arith, more, are.few);
      accounts = with_one accounts target are.form named;
      lasts = short.lasts;
      short = short.short;
    })))))))

pub impersonation_formed : (c : Content) (account : List ℕ) (request : Request) (now : ℕ) (e : Entry) → now ≤ 200_000_000_000
    → generated_for c account request now ≡ Ok e → IsEntry e
impersonation_formed c account request now e low is =
    subst (λ (asked : Result Entry GenerateRule). IfOk asked IsEntry) is (generated_formed c account request now low)
