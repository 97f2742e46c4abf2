-- What an exchange asks for, or the first rule that its form fails (RFC 8693, section 2.1).
use Rattle.std.specs.Prelude.{ℕ, ◌&&◌, ◌||◌, ◌∷◌, [], not, List, codes, Bool, Option, None, Some}
use Rattle.std.specs.Prelude.{option_and_then, is_some, unwrap_or, Result, Ok, Err, if◌then◌else◌}
use Rattle.std.specs.List.{list_all}
use Rattle.base_types.specs.Forms.{passing}
use Rattle.base_types.specs.Rules.{fails_if, first_of}
use Rattle.base_types.specs.Steps.{◌>>=◌, needed}
use Rattle.serde_json.specs.Data.{Data}
use Rattle.serde_json.specs.Find.{get}
use Rattle.iam_names.specs.Audience.{audience_of}
use Rattle.iam_names.specs.declared.audience.Audience.{Audience}
use Rattle.access_token.specs.Parts.{words_in}
use Rattle.boundary.specs.Boundaries.{Refusal, boundary_of}
use Rattle.boundary.specs.declared.rules.Boundary.{Boundary}
use Rattle.links.specs.Chain.{Chain, own}
use Rattle.links.specs.Authority.{is_live}
use Rattle.links.specs.Issued.{issued_link}
use Rattle.links.specs.Licence.{knows_word, unknown_role}
use Rattle.links.specs.State.{Content, chain}
use Rattle.links.specs.declared.entry.Entry.{Entry}
use Rattle.links.specs.declared.entry.Entry.TheVariants.{Federated, Narrow, Delegate}
use Rattle.entry_rules.specs.declared.fault.RuleCode.{RuleCode}
use Rattle.entry_rules.specs.declared.fault.RuleCode.TheVariants.{E11, E14, E21, E22}
use Rattle.service_view.specs.View.{cloud_platform}
use Rattle.exchange_form.specs.FormRules.{form_rules, is_outside_type, unless}
use Rattle.exchange_form.specs.Forms.{is_absent, object_of, once}
use Rattle.exchange_form.specs.declared.exchange_rule.ExchangeRule.{ExchangeRule}
use Rattle.exchange_form.specs.declared.exchange_rule.ExchangeRule.TheVariants.{E5, Options, E13, Unlicensed}
use Rattle.exchange_form.specs.declared.exchange_rule.ExchangeRule.TheVariants as rule
use Rattle.exchange_form.specs.declared.form.Parameter.{Parameter}

-- ---- the scope and the options

-- 1 to 16 scope words that are all there
abbrev pub known_words : Content → List ℕ → Option (List (List ℕ))
known_words c text = option_and_then (passing (list_all (knows_word c))) (words_in text)

-- the words of the scope, where there is one
unfoldable pub asked_words : Content → Option (List ℕ) → Result (Option (List (List ℕ))) ExchangeRule
asked_words c None = Ok None
asked_words c (Some text) = needed (Unlicensed E11) (known_words c text) >>= (λ words. Ok (Some words))

-- the boundary that was read, or its refusal as a rule
abbrev pub read_boundary : Result Boundary Refusal → Result Boundary ExchangeRule
read_boundary (Ok boundary) = Ok boundary
read_boundary (Err refusal) = Err (rule.Boundary refusal.rule refusal.cause)

-- the rule that forbids an entry, as a rule of the exchange
abbrev pub as_rule : Option RuleCode → Option ExchangeRule
as_rule None = None
as_rule (Some code) = Some (Unlicensed code)

-- the boundary with roles that are all there
abbrev pub known_boundary : Content → Boundary → Result (Option Boundary) ExchangeRule
known_boundary c boundary = unless (as_rule (unknown_role c boundary)) (Ok (Some boundary))

-- the boundary under `accessBoundary`, where that is there
abbrev pub boundary_under : Content → Option Data → Result (Option Boundary) ExchangeRule
boundary_under c None = Ok None
boundary_under c (Some d) = read_boundary (boundary_of d) >>= known_boundary c

-- the boundary of the options, which are a JSON object
unfoldable pub asked_boundary : Content → Option (List ℕ) → Result (Option Boundary) ExchangeRule
asked_boundary c None = Ok None
asked_boundary c (Some text) = needed Options (object_of text) >>= (λ d. boundary_under c (get (codes "accessBoundary") d))

-- ---- the entry

-- a boundary or an actor with a subject token from outside, or both
abbrev pub is_mixed : List Parameter → Option Boundary → Bool
is_mixed form boundary =
    let actor = not (is_absent form (codes "actor_token")) in
    (is_outside_type (once (codes "subject_token_type") form) && (is_some boundary || actor)) || (is_some boundary && actor)

-- what may not be asked for together
abbrev pub joint_rule : List Parameter → Option Boundary → Option ExchangeRule
joint_rule form boundary = fails_if (is_mixed form boundary) E13

-- the provider that is named once
abbrev pub named_provider : Option (List ℕ) → Option Audience
named_provider audience = option_and_then audience_of audience

-- the exchange of a subject token from outside, for these words or for all permissions
abbrev pub outside_entry : List Parameter → List ℕ → Option (List (List ℕ)) → ℕ → Result Entry ExchangeRule
outside_entry form token words now =
    needed (Unlicensed E14) (named_provider (once (codes "audience") form)) >>= (λ provider.
    Ok (Federated (record { provider = provider; token = token; scope = unwrap_or words (cloud_platform ∷ []); at = now })))

-- the words of a link's own
abbrev pub words_of : Option Chain → List (List ℕ)
words_of None = []
words_of (Some chain) = (own chain).words

-- the number of the live link that a token was issued for
abbrev pub live_issued : Content → ℕ → List ℕ → Option ℕ
live_issued c now token = option_and_then (passing (λ number. is_live c.view (chain c number) now)) (issued_link c token)

-- the entry of a live link's token: a narrowing, or a delegation where there is an actor's token
abbrev pub derived_entry : Content → ℕ → Option (List ℕ) → List (List ℕ) → Option Boundary → ℕ → Result Entry ExchangeRule
derived_entry c subject None scope boundary now = Ok (Narrow (record { parent = subject; boundary = boundary; scope = scope; at = now }))
derived_entry c subject (Some token) scope boundary now =
    needed (Unlicensed E22) (live_issued c now token) >>= (λ actor.
    Ok (Delegate (record { subject = subject; actor = actor; scope = scope; at = now })))

-- the entry of an access token that was issued, for these words or for its own
abbrev pub access_entry : Content → List Parameter → List ℕ → Option (List (List ℕ)) → Option Boundary → ℕ → Result Entry ExchangeRule
access_entry c form token words boundary now =
    unless (fails_if (not (is_absent form (codes "audience"))) (Unlicensed E14)) (
    needed (Unlicensed E21) (live_issued c now token) >>= (λ subject.
    derived_entry c subject (once (codes "actor_token") form) (unwrap_or words (words_of (chain c subject))) boundary now))

-- the entry of a subject token of its type
abbrev pub entry_of : Content → List Parameter → List ℕ → Option (List (List ℕ)) → Option Boundary → ℕ → Result Entry ExchangeRule
entry_of c form token words boundary now =
    if is_outside_type (once (codes "subject_token_type") form) then outside_entry form token words now
    else access_entry c form token words boundary now

-- the entry that an exchange asks for, or the first rule that it fails
unfoldable pub asked_for : Content → List Parameter → ℕ → Result Entry ExchangeRule
asked_for c form now =
    unless (first_of (form_rules form)) (
    asked_words c (once (codes "scope") form) >>= (λ words.
    asked_boundary c (once (codes "options") form) >>= (λ boundary.
    unless (joint_rule form boundary) (
    needed E5 (once (codes "subject_token") form) >>= (λ token.
    entry_of c form token words boundary now)))))
