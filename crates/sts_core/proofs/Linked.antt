-- The entry that is asked for records a link.
use Rattle.std.proofs.Common.{◌≡◌, ℕ, ◌∷◌, [], List, Bool, true, false, subst}
use Rattle.std.specs.Prelude.{⊤, codes, not, IfOk, Option, None, Some, Result, Ok, unwrap_or, if◌then◌else◌}
use Rattle.std.specs.Str.{bytes_eq}
use Rattle.base_types.specs.Forms.{passing}
use Rattle.base_types.specs.Rules.{fails_if, first_of}
use Rattle.base_types.specs.Steps.{◌>>=◌, needed}
use Rattle.serde_json.specs.Find.{get}
use Rattle.boundary.specs.declared.rules.Boundary.{Boundary}
use Rattle.entry_texts.specs.Exact.{IsLink}
use Rattle.iam_names.specs.Forms.{is_account}
use Rattle.links.specs.declared.entry.Entry.{Entry}
use Rattle.links.specs.declared.entry.Entry.TheVariants.{Federated, Delegate}
use Rattle.links.specs.State.{Content, chain}
use Rattle.entry_rules.specs.declared.fault.RuleCode.TheVariants.{E14, E21, E22}
use Rattle.exchange_form.specs.FormRules.{form_rules, is_outside_type}
use Rattle.exchange_form.specs.Forms.{is_absent, object_of, once}
use Rattle.exchange_form.specs.declared.exchange_rule.ExchangeRule.{ExchangeRule}
use Rattle.exchange_form.specs.declared.exchange_rule.ExchangeRule.TheVariants.{E5, Unlicensed}
use Rattle.exchange_form.specs.declared.form.Parameter.{Parameter}
use Rattle.service_view.specs.View.{cloud_platform}
use Rattle.sts_replies.specs.declared.generate_rule.GenerateRule.{GenerateRule}
use Rattle.sts_replies.specs.declared.generate_rule.GenerateRule.TheVariants.{I1, I2, I3, I4, I5, I6, I7}
use Rattle.wif_base.specs.declared.request.Request.{Request}
use Rattle.sts_core.specs.Asked.{access_entry, asked_boundary, asked_for, asked_words, derived_entry, joint_rule, live_issued, named_provider, outside_entry, words_of}
use Rattle.sts_core.specs.Generated.{delegates_of, generated_for, given, lifetime_of, scope_of}
use Rattle.sts_core.proofs.AskedParts.{after_rule, after_step, anything}

outside_linked : (form : List Parameter) (token : List ℕ) (words : Option (List (List ℕ))) (now : ℕ) → IfOk (outside_entry form token words now) IsLink
outside_linked form token words now =
    after_step (needed (Unlicensed E14) (named_provider (once (codes "audience") form)))
    (λ provider. Ok (Federated (record { provider = provider; token = token; scope = unwrap_or words (cloud_platform ∷ []); at = now })))
    (λ provider. ⊤) IsLink (anything _) (λ provider there. tt)

derived_linked : (c : Content) (subject : ℕ) (actor : Option (List ℕ)) (scope : List (List ℕ)) (boundary : Option Boundary) (now : ℕ)
    → IfOk (derived_entry c subject actor scope boundary now) IsLink
derived_linked c subject None scope boundary now = tt
derived_linked c subject (Some token) scope boundary now =
    after_step (needed (Unlicensed E22) (live_issued c now token))
    (λ actor. Ok (Delegate (record { subject = subject; actor = actor; scope = scope; at = now }))) (λ actor. ⊤) IsLink
    (anything _) (λ actor there. tt)

access_linked : (c : Content) (form : List Parameter) (token : List ℕ) (words : Option (List (List ℕ))) (boundary : Option Boundary) (now : ℕ)
    → IfOk (access_entry c form token words boundary now) IsLink
access_linked c form token words boundary now =
    after_rule (fails_if (not (is_absent form (codes "audience"))) (Unlicensed E14)) _ IsLink
    (after_step (needed (Unlicensed E21) (live_issued c now token))
    (λ subject. derived_entry c subject (once (codes "actor_token") form) (unwrap_or words (words_of (chain c subject))) boundary now)
    (λ subject. ⊤) IsLink (anything _)
    (λ subject is. derived_linked c subject (once (codes "actor_token") form) (unwrap_or words (words_of (chain c subject))) boundary now))

typed_linked : (c : Content) (form : List Parameter) (token : List ℕ) (words : Option (List (List ℕ))) (boundary : Option Boundary) (now : ℕ) (outside : Bool)
    → IfOk (if outside then outside_entry form token words now else access_entry c form token words boundary now) IsLink
typed_linked c form token words boundary now true = outside_linked form token words now
typed_linked c form token words boundary now false = access_linked c form token words boundary now

asked_linked : (c : Content) (form : List Parameter) (now : ℕ) → IfOk (asked_for c form now) IsLink
unfolding asked_for
asked_linked c form now =
    after_rule (first_of (form_rules form)) _ IsLink
    (after_step (asked_words c (once (codes "scope") form)) _ (λ words. ⊤) IsLink (anything _) (λ words formed.
    after_step (asked_boundary c (once (codes "options") form)) _ (λ boundary. ⊤) IsLink (anything _) (λ boundary exact.
    after_rule (joint_rule form boundary) _ IsLink
    (after_step (needed E5 (once (codes "subject_token") form)) _ (λ token. ⊤) IsLink (anything _) (λ token found.
    typed_linked c form token words boundary now (is_outside_type (once (codes "subject_token_type") form)))))))

pub entry_linked : (c : Content) (form : List Parameter) (now : ℕ) (e : Entry) → asked_for c form now ≡ Ok e → IsLink e
entry_linked c form now e is = subst (λ (asked : Result Entry ExchangeRule). IfOk asked IsLink) is (asked_linked c form now)

generated_linked : (c : Content) (account : List ℕ) (request : Request) (now : ℕ) → IfOk (generated_for c account request now) IsLink
unfolding generated_for
generated_linked c account request now =
    after_step (needed I1 request.bearer) _ (λ bearer. ⊤) IsLink (anything _) (λ bearer shown.
    after_step (needed I2 (passing is_account account)) _ (λ target. ⊤) IsLink (anything _) (λ target named.
    after_step (needed I3 (object_of request.body)) _ (λ d. ⊤) IsLink (anything _) (λ d there.
    after_step (needed I4 (delegates_of (given (get (codes "delegates") d)))) _ (λ delegates. ⊤) IsLink (anything _) (λ accounts are.
    after_step (needed I5 (scope_of c (get (codes "scope") d))) _ (λ words. ⊤) IsLink (anything _) (λ words formed.
    after_step (needed I6 (lifetime_of (given (get (codes "lifetime") d)))) _ (λ seconds. ⊤) IsLink (anything _) (λ seconds short.
    after_step (needed I7 (live_issued c now bearer)) _ (λ parent. ⊤) IsLink (anything _) (λ parent live. tt)))))))

pub impersonation_linked : (c : Content) (account : List ℕ) (request : Request) (now : ℕ) (e : Entry) → generated_for c account request now ≡ Ok e → IsLink e
impersonation_linked c account request now e is =
    subst (λ (asked : Result Entry GenerateRule). IfOk asked IsLink) is (generated_linked c account request now)
