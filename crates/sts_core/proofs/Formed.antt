-- The entry that is asked for has its form.
use Rattle.std.proofs.Common.{◌≡◌, ℕ, ◌≤◌, ◌∷◌, [], List, Bool, true, false, refl, subst}
use Rattle.std.specs.Prelude.{⊤, ◌==◌, codes, not, IfOk, IfSome, Option, None, Some, Result, Ok, unwrap_or, if◌then◌else◌}
use Rattle.std.specs.List.{list_all, slice_split}
use Rattle.base_types.specs.Rules.{fails_if, first_of}
use Rattle.base_types.specs.Steps.{◌>>=◌, needed}
use Rattle.access_token.specs.Forms.{are_words}
use Rattle.access_token.specs.Parts.{words_in}
use Rattle.boundary.specs.declared.rules.Boundary.{Boundary}
use Rattle.links.specs.declared.entry.Entry.{Entry}
use Rattle.links.specs.declared.entry.Entry.TheVariants.{Federated, Delegate}
use Rattle.entry_rules.specs.declared.fault.RuleCode.TheVariants.{E11, E14, E21, E22}
use Rattle.links.specs.Entries.{IsEntry}
use Rattle.links.specs.Licence.{Reached, knows_word}
use Rattle.links.specs.State.{Content, chain}
use Rattle.service_view.specs.View.{cloud_platform}
use Rattle.exchange_form.specs.declared.exchange_rule.ExchangeRule.{ExchangeRule}
use Rattle.exchange_form.specs.declared.exchange_rule.ExchangeRule.TheVariants.{E5, Unlicensed}
use Rattle.exchange_form.specs.declared.form.Parameter.{Parameter}
use Rattle.sts_core.specs.Asked.{access_entry, asked_boundary, asked_for, asked_words, derived_entry, joint_rule, known_words, live_issued, named_provider, outside_entry, words_of}
use Rattle.exchange_form.specs.FormRules.{form_rules, is_outside_type}
use Rattle.exchange_form.specs.Forms.{is_absent, once}
use Rattle.sts_core.proofs.AskedParts.{IsExactIfThere, after_rule, after_step, anything, boundary_exact, live_words, still_formed, where_needed}
use Rattle.sts_core.proofs.LinkWords.{HaveWords, reached_words}

-- ---- scope words

tested : {X : Type 0} (test : X → Bool) (x : X) (passes : Bool) → test x ≡ passes → IfSome (if passes then Some x else None) (λ y. test y ≡ true)
tested test x true is = is
tested test x false is = tt

-- the words are 1 to 16, if they are there
AreFormed : Option (List (List ℕ)) → Type 0
AreFormed words = IfSome words (λ found. are_words found ≡ true)

text_formed : (text : List ℕ) → IfSome (words_in text) (λ words. are_words words ≡ true)
text_formed text = tested are_words (slice_split (λ byte. byte == 32) text) _ refl

found_formed : (words : Option (List (List ℕ))) → IfSome words (λ words. are_words words ≡ true)
    → IfOk (needed (Unlicensed E11) words >>= (λ words. Ok (Some words))) AreFormed
unfolding AreFormed
found_formed None is = tt
found_formed (Some words) is = is

words_formed : (c : Content) (scope : Option (List ℕ)) → IfOk (asked_words c scope) AreFormed
unfolding asked_words AreFormed
words_formed c None = tt
words_formed c (Some text) =
    found_formed (known_words c text) (still_formed (list_all (knows_word c)) (words_in text) (λ words. are_words words ≡ true) (text_formed text))

-- the words, or others that have their form
or_formed : (words : Option (List (List ℕ))) (others : List (List ℕ)) → are_words others ≡ true → AreFormed words → are_words (unwrap_or words others) ≡ true
unfolding AreFormed
or_formed None others is formed = is
or_formed (Some words) others is formed = formed

-- ---- the entry

outside_formed : (form : List Parameter) (token : List ℕ) (words : Option (List (List ℕ))) (now : ℕ) → now ≤ 200_000_000_000 → AreFormed words
    → IfOk (outside_entry form token words now) IsEntry
outside_formed form token words now low formed =
    after_step (needed (Unlicensed E14) (named_provider (once (codes "audience") form)))
    (λ provider. Ok (Federated (record { provider = provider; token = token; scope = unwrap_or words (cloud_platform ∷ []); at = now })))
    (λ provider. ⊤) IsEntry (anything _) (λ provider there. record { moment = low; words = or_formed words (cloud_platform ∷ []) refl formed })

itself : {X : Type 0} (found : Option X) → IfSome found (λ x. found ≡ Some x)
itself None = tt
itself (Some x) = refl

derived_formed : (c : Content) (subject : ℕ) (actor : Option (List ℕ)) (scope : List (List ℕ)) (boundary : Option Boundary) (now : ℕ)
    → now ≤ 200_000_000_000 → are_words scope ≡ true → IsExactIfThere boundary → IfOk (derived_entry c subject actor scope boundary now) IsEntry
derived_formed c subject None scope boundary now low words exact = record { moment = low; words = words; boundary = exact }
derived_formed c subject (Some token) scope boundary now low words exact =
    after_step (needed (Unlicensed E22) (live_issued c now token))
    (λ actor. Ok (Delegate (record { subject = subject; actor = actor; scope = scope; at = now }))) (λ actor. ⊤) IsEntry
    (anything _) (λ actor there. record { moment = low; words = words })

access_formed : (c : Content) (form : List Parameter) (token : List ℕ) (words : Option (List (List ℕ))) (boundary : Option Boundary) (now : ℕ)
    → HaveWords c → now ≤ 200_000_000_000 → AreFormed words → IsExactIfThere boundary → IfOk (access_entry c form token words boundary now) IsEntry
access_formed c form token words boundary now have low formed exact =
    after_rule (fails_if (not (is_absent form (codes "audience"))) (Unlicensed E14)) _ IsEntry
    (after_step (needed (Unlicensed E21) (live_issued c now token))
    (λ subject. derived_entry c subject (once (codes "actor_token") form) (unwrap_or words (words_of (chain c subject))) boundary now)
    (λ subject. live_issued c now token ≡ Some subject) IsEntry
    (where_needed (Unlicensed E21) (live_issued c now token) (λ subject. live_issued c now token ≡ Some subject) (itself (live_issued c now token)))
    (λ subject is. derived_formed c subject (once (codes "actor_token") form) (unwrap_or words (words_of (chain c subject))) boundary now low
    (or_formed words (words_of (chain c subject)) (live_words c now token subject have is) formed) exact))

typed_formed : (c : Content) (form : List Parameter) (token : List ℕ) (words : Option (List (List ℕ))) (boundary : Option Boundary) (now : ℕ) (outside : Bool)
    → HaveWords c → now ≤ 200_000_000_000 → AreFormed words → IsExactIfThere boundary
    → IfOk (if outside then outside_entry form token words now else access_entry c form token words boundary now) IsEntry
typed_formed c form token words boundary now true have low formed exact = outside_formed form token words now low formed
typed_formed c form token words boundary now false have low formed exact = access_formed c form token words boundary now have low formed exact

pub asked_formed : (c : Content) (form : List Parameter) (now : ℕ) → HaveWords c → now ≤ 200_000_000_000 → IfOk (asked_for c form now) IsEntry
unfolding asked_for
asked_formed c form now have low =
    after_rule (first_of (form_rules form)) _ IsEntry
    (after_step (asked_words c (once (codes "scope") form)) _ AreFormed IsEntry (words_formed c (once (codes "scope") form)) (λ words formed.
    after_step (asked_boundary c (once (codes "options") form)) _ IsExactIfThere IsEntry (boundary_exact c (once (codes "options") form)) (λ boundary exact.
    after_rule (joint_rule form boundary) _ IsEntry
    (after_step (needed E5 (once (codes "subject_token") form)) _ (λ token. ⊤) IsEntry (anything _) (λ token found.
    typed_formed c form token words boundary now (is_outside_type (once (codes "subject_token_type") form)) have low formed exact)))))

pub entry_formed : (c : Content) (form : List Parameter) (now : ℕ) (e : Entry) → Reached c → now ≤ 200_000_000_000 → asked_for c form now ≡ Ok e → IsEntry e
entry_formed c form now e reached low is =
    subst (λ (asked : Result Entry ExchangeRule). IfOk asked IsEntry) is (asked_formed c form now (reached_words c reached) low)
