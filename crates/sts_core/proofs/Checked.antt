-- The laws of checks, and of the journal that each step leaves.
use Rattle.std.proofs.Common.{◌≡◌, ℕ, ◌≤◌, ◌^◌, ◌∷◌, ◌++◌, [], List, Bool, true, false, ◌&&◌, length, refl, sym, ap, ◌∙◌, subst, arith}
use Rattle.std.proofs.lemmas.Bool.{and_from, and_parts}
use Rattle.std.specs.List.{list_all}
use Rattle.std.specs.Prelude.{◌↔◌, ⊤, codes, nat_lt, IfOk, IfSome, Option, None, Some, Result, Ok, Err, option_and_then, if◌then◌else◌}
use Rattle.base_types.specs.Rules.{first_failing}
use Rattle.serde_json.specs.Data.{Data}
use Rattle.hmac_jws.specs.Verified.{first_jws_fault, MacGood}
use Rattle.hmac_jws.specs.declared.fault.JwsFault.{JwsFault}
use Rattle.service_config.specs.declared.config.Config.{Config}
use Rattle.service_config.specs.Formed.{IsFormedConfig}
use Rattle.service_view.specs.View.{View, pool_enabled, account_enabled}
use Rattle.service_view.specs.Commands.{IsCommand}
use Rattle.service_view.specs.declared.command.Command.{Command}
use Rattle.sts_admin.specs.declared.command.CommandFault.{CommandFault}
use Rattle.sts_admin.specs.Commands.{command_of}
use Rattle.sts_admin.proofs.FormedCommands.{command_formed}
use Rattle.wif_base.specs.declared.request.Request.{Request}
use Rattle.wif_base.specs.declared.route.Route.{Route}
use Rattle.wif_base.specs.declared.route.Route.TheVariants.{Token, Generate, Introspect, Check, Admin}
use Rattle.grant_gate.specs.Carried.{carried_of, carried_after, gate_fault}
use Rattle.grant_gate.specs.Decision.{boundary_holds, carried_decision, decided, denied_at, denied_unless, fault_decision, place_failing, words_allow}
use Rattle.grant_gate.specs.declared.decision.Decision.{Decision}
use Rattle.grant_gate.specs.declared.decision.Decision.TheVariants.{Admit, Deny}
use Rattle.grant_gate.specs.declared.decision.GateRule.{GateRule}
use Rattle.grant_gate.specs.declared.decision.GateRule.TheVariants.{G4, G5, G6, G7, G8, G9}
use Rattle.grant_gate.specs.declared.fault.GateFault.{GateFault}
use Rattle.grant_gate.specs.declared.fault.GateFault.TheVariants as gate
use Rattle.links.specs.declared.entry.Entry.{Entry}
use Rattle.links.specs.declared.entry.Entry.TheVariants as entry
use Rattle.entry_rules.specs.declared.fault.RuleCode.{RuleCode}
use Rattle.link_laws.specs.Ancestors.{limits_in, links_in}
use Rattle.links.specs.Authority.{admits, allows, allows_itself, live, lives_itself}
use Rattle.allow_policy.specs.Granting.{granted}
use Rattle.boundary.specs.declared.rules.Boundary.{Boundary}
use Rattle.links.specs.Chain.{Chain, Narrowed, Delegated, Own, own}
use Rattle.links.specs.Entries.{IsEntry}
use Rattle.links.specs.Facts.{exp_of, who_of, pools_of, accounts_of, scopes_of, bounds_of}
use Rattle.links.specs.Issued.{issued_link}
use Rattle.links.specs.Licence.{first_unlicensed, Lawful}
use Rattle.links.specs.State.{chain, content_of, start_of, state_after, token_text}
use Rattle.link_laws.proofs.Counted.{each_allows, each_lives, parent_admits, subject_admits}
use Rattle.links.proofs.Journals.{lawful_kept, whole_of_chain}
use Rattle.link_laws.proofs.LinkLaws.{issued_for}
use Rattle.links.proofs.Replays.{lawful-last, state_after-append}
use Rattle.exchange_form.specs.declared.exchange_rule.ExchangeRule.{ExchangeRule}
use Rattle.sts_core.specs.Asked.{asked_for}
use Rattle.exchange_form.specs.Forms.{form_of, object_of}
use Rattle.sts_core.specs.Generated.{generated_for}
use Rattle.sts_replies.specs.declared.generate_rule.GenerateRule.{GenerateRule}
use Rattle.sts_core.specs.Machine.{administration, command_in, commanded, commanded_by, exchange, exchanged, generate, generate_asked, generate_ruled, is_bearer}
use Rattle.sts_core.specs.Machine.{fitted, no_entry, ruled, step, step_of, with_entry}
use Rattle.service_journal.specs.Journals.{fits_behind, journal_size}
use Rattle.wif_base.specs.declared.request.Reply.{Reply}
use Rattle.sts_replies.specs.Replies.{journal_full, u1}
use Rattle.sts_core.specs.Check.{check_decision, chain_or_carried, issued_chain, first_denial, link_decision}
use Rattle.sts_core.proofs.Formed.{asked_formed}
use Rattle.sts_core.proofs.FormedImpersonations.{generated_formed}
use Rattle.sts_core.proofs.LinkWords.{lawful_words}

-- ---- a denial is no admission

IsDenial : Decision → Type 0
IsDenial Admit = ⊥
IsDenial (Deny rule place) = ⊤

denial_first : (rule : Option Decision) (rules : List (Option Decision)) (other : Decision) → IfSome rule IsDenial → IsDenial (first_failing rules other)
    → IsDenial (first_failing (rule ∷ rules) other)
denial_first None rules other is rest = rest
denial_first (Some denial) rules other is rest = is

unless_denies : (passes : Bool) (rule : GateRule) → IfSome (denied_unless passes rule) IsDenial
unfolding IsDenial
unless_denies true rule = tt
unless_denies false rule = tt

place_denies : (rule : GateRule) (place : Option ℕ) → IfSome (denied_at rule place) IsDenial
unfolding IsDenial
place_denies rule None = tt
place_denies rule (Some place) = tt

first_denies : (view : View) (found : Chain) (permission resource : List ℕ) (now : ℕ) → IsDenial (first_denial view found permission resource now)
unfolding first_denial IsDenial
first_denies view found permission resource now =
    denial_first _ _ (Deny G9 0) (unless_denies (nat_lt now (exp_of found)) G4)
    (denial_first _ _ (Deny G9 0) (place_denies G5 (place_failing (pool_enabled view) (pools_of found)))
    (denial_first _ _ (Deny G9 0) (place_denies G6 (place_failing (account_enabled view) (accounts_of found)))
    (denial_first _ _ (Deny G9 0) (place_denies G7 (place_failing (words_allow view permission) (scopes_of found)))
    (denial_first _ _ (Deny G9 0) (place_denies G8 (place_failing (boundary_holds view permission resource now) (bounds_of found))) tt))))

no_admission : (decision : Decision) → IsDenial decision → decision ≡ Admit → ⊥
unfolding IsDenial
no_admission Admit is same = is
no_admission (Deny rule place) is same = cc same

-- ---- a check of an issued token

decided_by : (view : View) (found : Chain) (permission resource : List ℕ) (now : ℕ) (admitted : Bool) → admits view found permission resource now ≡ admitted
    → (link_decision view found permission resource now ≡ Admit) ↔ (admits view found permission resource now ≡ true)
unfolding link_decision
decided_by view found permission resource now true is = (λ h. is, λ h. rw is refl)
decided_by view found permission resource now false is = (
  λ h. absurd (no_admission (first_denial view found permission resource now) (first_denies view found permission resource now)
      (subst (λ (b : Bool). (if b then Admit else first_denial view found permission resource now) ≡ Admit) is h)),
  λ h. absurd (cc (is, h)),
)

pub issued_checks : (config : Config) (journal : List Entry) (n : ℕ) (found : Chain) (permission resource : List ℕ) (now : ℕ)
    → IsFormedConfig config → Lawful config journal → length journal ≤ 2 ^ 32 → chain (content_of config journal) n ≡ Some found
    → (check_decision (content_of config journal) (token_text (content_of config journal) found) permission resource now ≡ Admit)
    ↔ (admits (content_of config journal).view found permission resource now ≡ true)
unfolding check_decision
issued_checks config journal n found permission resource now formed lawful few there =
    let c = content_of config journal in
    let text = token_text c found in
    let issued : issued_chain c text ≡ Some found =
    ap (λ (o : Option ℕ). option_and_then (chain c) o) (issued_for config journal n found formed lawful few there) ∙ there in
    let admitted = admits c.view found permission resource now ≡ true in
    subst (λ (o : Option Chain). (chain_or_carried c text permission resource now o ≡ Admit) ↔ admitted) (sym issued)
    (decided_by c.view found permission resource now (admits c.view found permission resource now) refl)

pub narrowed_checks : (config : Config) (journal : List Entry) (n : ℕ) (o : Own) (boundary : Option Boundary) (parent : Chain) (permission resource : List ℕ) (now : ℕ)
    → IsFormedConfig config → Lawful config journal → length journal ≤ 2 ^ 32 → chain (content_of config journal) n ≡ Some (Narrowed o boundary parent)
    → check_decision (content_of config journal) (token_text (content_of config journal) (Narrowed o boundary parent)) permission resource now ≡ Admit
    → check_decision (content_of config journal) (token_text (content_of config journal) parent) permission resource now ≡ Admit
narrowed_checks config journal n o boundary parent permission resource now formed lawful few there admitted =
    let c = content_of config journal in
    let found = Narrowed o boundary parent in
    let before : chain c (own parent).number ≡ Some parent = whole_of_chain c n found (lawful_kept config journal formed lawful) there in
    let admits_it = (issued_checks config journal n found permission resource now formed lawful few there).0 admitted in
    (issued_checks config journal (own parent).number parent permission resource now formed lawful few before).1
    (parent_admits c.view o boundary parent permission resource now admits_it)

pub delegated_checks : (config : Config) (journal : List Entry) (n : ℕ) (o : Own) (subject actor : Chain) (permission resource : List ℕ) (now : ℕ)
    → IsFormedConfig config → Lawful config journal → length journal ≤ 2 ^ 32 → chain (content_of config journal) n ≡ Some (Delegated o subject actor)
    → check_decision (content_of config journal) (token_text (content_of config journal) (Delegated o subject actor)) permission resource now ≡ Admit
    → check_decision (content_of config journal) (token_text (content_of config journal) subject) permission resource now ≡ Admit
delegated_checks config journal n o subject actor permission resource now formed lawful few there admitted =
    let c = content_of config journal in
    let found = Delegated o subject actor in
    let before : chain c (own subject).number ≡ Some subject = (whole_of_chain c n found (lawful_kept config journal formed lawful) there).0 in
    let admits_it = (issued_checks config journal n found permission resource now formed lawful few there).0 admitted in
    (issued_checks config journal (own subject).number subject permission resource now formed lawful few before).1
    (subject_admits c.view o subject actor permission resource now admits_it)

-- a delegated link ends with its subject and with its actor
pub delegated_ends : (o : Own) (subject actor : Chain)
    → (exp_of (Delegated o subject actor) ≤ exp_of subject) × (exp_of (Delegated o subject actor) ≤ exp_of actor)
delegated_ends o subject actor = (omega arith, omega arith)

pub narrowed_ends : (o : Own) (boundary : Option Boundary) (parent : Chain) → exp_of (Narrowed o boundary parent) ≤ exp_of parent
narrowed_ends o boundary parent = omega arith

-- each link of the chain is live by itself, each that limits it allows the permission, and its principal is granted it
Each : View → Chain → List ℕ → List ℕ → ℕ → Type 0
Each view found permission resource now =
    (list_all (λ link. lives_itself view link now) (links_in found) ≡ true)
    × (list_all (λ link. allows_itself view link permission resource now) (limits_in found) ≡ true)
    × (granted view.lists (who_of found) permission resource now ≡ true)

admits_by_each : (view : View) (found : Chain) (permission resource : List ℕ) (now : ℕ)
    → (admits view found permission resource now ≡ true) ↔ Each view found permission resource now
unfolding Each
admits_by_each view found permission resource now =
    let lives = live view found now in
    let may = allows view found permission resource now in
    let grants = granted view.lists (who_of found) permission resource now in (
      λ is.
          let first = and_parts lives (may && grants) is in
          let second = and_parts may grants first.1 in
          (sym (each_lives view found now) ∙ first.0, sym (each_allows view found permission resource now) ∙ second.0, second.1),
      λ each. and_from lives (may && grants) (each_lives view found now ∙ each.0)
          (and_from may grants (each_allows view found permission resource now ∙ each.1) each.2),
    )

pub linked_checks : (config : Config) (journal : List Entry) (n : ℕ) (found : Chain) (permission resource : List ℕ) (now : ℕ)
    → IsFormedConfig config → Lawful config journal → length journal ≤ 2 ^ 32 → chain (content_of config journal) n ≡ Some found
    → (check_decision (content_of config journal) (token_text (content_of config journal) found) permission resource now ≡ Admit)
    ↔ ((list_all (λ link. lives_itself (content_of config journal).view link now) (links_in found) ≡ true)
    × (list_all (λ link. allows_itself (content_of config journal).view link permission resource now) (limits_in found) ≡ true)
    × (granted (content_of config journal).view.lists (who_of found) permission resource now ≡ true))
unfolding Each
linked_checks config journal n found permission resource now formed lawful few there =
    let by_it = issued_checks config journal n found permission resource now formed lawful few there in
    let by_each = admits_by_each (content_of config journal).view found permission resource now in
    (λ admitted. by_each.0 (by_it.0 admitted), λ each. by_it.1 (by_each.1 each))

-- ---- a check of any other text

fault_denies : (fault : GateFault) → IsDenial (fault_decision fault)
unfolding IsDenial
fault_denies gate.Shape = tt
fault_denies gate.Mac = tt
fault_denies gate.Claims = tt
fault_denies gate.Memory = tt

verified_by : (view : View) (key issuer text permission resource : List ℕ) (now : ℕ) (fault : Option JwsFault) → first_jws_fault key text ≡ fault
    → decided view (carried_after issuer text fault) permission resource now ≡ Admit → MacGood key text
verified_by view key issuer text permission resource now None is admitted = is
verified_by view key issuer text permission resource now (Some fault) is admitted =
    absurd (no_admission (fault_decision (gate_fault fault)) (fault_denies (gate_fault fault)) admitted)

pub other_checks : (config : Config) (journal : List Entry) (text permission resource : List ℕ) (now : ℕ)
    → issued_link (content_of config journal) text ≡ None → check_decision (content_of config journal) text permission resource now ≡ Admit
    → MacGood (content_of config journal).key text
unfolding check_decision carried_decision carried_of
other_checks config journal text permission resource now none admitted =
    let c = content_of config journal in
    let other : issued_chain c text ≡ None = ap (λ (o : Option ℕ). option_and_then (chain c) o) none in
    verified_by c.view c.key c.issuer text permission resource now (first_jws_fault c.key text) refl
    (subst (λ (o : Option Chain). chain_or_carried c text permission resource now o ≡ Admit) other admitted)

-- ---- the journal that a step leaves

ruled_lawful : (config : Config) (journal : List Entry) (e : Entry) (rule : Option RuleCode) → first_unlicensed (content_of config journal) e ≡ rule
    → IsEntry e → Lawful config journal
    → Lawful config (with_entry journal (ruled (content_of config journal) e rule).entry)
ruled_lawful config journal e None is form lawful = lawful-last (start_of config) journal e lawful form is
ruled_lawful config journal e (Some rule) is form lawful = lawful

command_lawful : (config : Config) (journal : List Entry) (command : Command) (rule : Option RuleCode) → IsCommand command
    → first_unlicensed (content_of config journal) (entry.Put command) ≡ rule
    → Lawful config journal → Lawful config (with_entry journal (commanded_by (content_of config journal) command rule).entry)
command_lawful config journal command None form is lawful = lawful-last (start_of config) journal (entry.Put command) lawful form is
command_lawful config journal command (Some rule) form is lawful = lawful

commanded_lawful : (config : Config) (journal : List Entry) (read : Result Command CommandFault)
    → ((command : Command) → read ≡ Ok command → IsCommand command) → Lawful config journal
    → Lawful config (with_entry journal (commanded (content_of config journal) read).entry)
commanded_lawful config journal (Err fault) form lawful = lawful
commanded_lawful config journal (Ok command) form lawful =
    command_lawful config journal command (first_unlicensed (content_of config journal) (entry.Put command)) (form command refl) refl lawful

object_lawful : (config : Config) (journal : List Entry) (object : Option Data) → Lawful config journal
    → Lawful config (with_entry journal (command_in (content_of config journal) object).entry)
object_lawful config journal None lawful = lawful
object_lawful config journal (Some d) lawful = commanded_lawful config journal (command_of d) (λ command is. command_formed d command is) lawful

bearer_lawful : (config : Config) (journal : List Entry) (request : Request) (known : Bool) → Lawful config journal
    → Lawful config (with_entry journal (if known then command_in (content_of config journal) (object_of request.body) else no_entry u1).entry)
bearer_lawful config journal request true lawful = object_lawful config journal (object_of request.body) lawful
bearer_lawful config journal request false lawful = lawful

pub administration_lawful : (config : Config) (journal : List Entry) (secret : List ℕ) (request : Request) → Lawful config journal
    → Lawful config (with_entry journal (administration secret (content_of config journal) request).entry)
unfolding administration
administration_lawful config journal secret request lawful = bearer_lawful config journal request (is_bearer secret request.bearer) lawful

exchanged_lawful : (config : Config) (journal : List Entry) (asked : Result Entry ExchangeRule) → IfOk asked IsEntry → Lawful config journal
    → Lawful config (with_entry journal (exchanged (content_of config journal) asked).entry)
exchanged_lawful config journal (Err rule) form lawful = lawful
exchanged_lawful config journal (Ok e) form lawful = ruled_lawful config journal e (first_unlicensed (content_of config journal) e) refl form lawful

pub exchange_lawful : (config : Config) (journal : List Entry) (request : Request) (now : ℕ) → now ≤ 200_000_000_000 → Lawful config journal
    → Lawful config (with_entry journal (exchange (content_of config journal) request now).entry)
exchange_lawful config journal request now low lawful =
    let c = content_of config journal in
    exchanged_lawful config journal (asked_for c (form_of request.body) now)
    (asked_formed c (form_of request.body) now (lawful_words config journal lawful) low) lawful

generate_ruled_lawful : (config : Config) (journal : List Entry) (e : Entry) (rule : Option RuleCode)
    → first_unlicensed (content_of config journal) e ≡ rule → IsEntry e → Lawful config journal
    → Lawful config (with_entry journal (generate_ruled (content_of config journal) e rule).entry)
generate_ruled_lawful config journal e None is form lawful = lawful-last (start_of config) journal e lawful form is
generate_ruled_lawful config journal e (Some rule) is form lawful = lawful

generate_asked_lawful : (config : Config) (journal : List Entry) (asked : Result Entry GenerateRule) → IfOk asked IsEntry → Lawful config journal
    → Lawful config (with_entry journal (generate_asked (content_of config journal) asked).entry)
generate_asked_lawful config journal (Err rule) form lawful = lawful
generate_asked_lawful config journal (Ok e) form lawful =
    generate_ruled_lawful config journal e (first_unlicensed (content_of config journal) e) refl form lawful

pub generate_lawful : (config : Config) (journal : List Entry) (account : List ℕ) (request : Request) (now : ℕ) → now ≤ 200_000_000_000
    → Lawful config journal → Lawful config (with_entry journal (generate (content_of config journal) account request now).entry)
generate_lawful config journal account request now low lawful =
    let c = content_of config journal in
    generate_asked_lawful config journal (generated_for c account request now) (generated_formed c account request now low) lawful

fitted_by : (config : Config) (journal : List Entry) (code : List ℕ) (reply : Reply) (e : Entry) (fits : Bool) → Lawful config journal → Lawful config (journal ++ e ∷ [])
    → Lawful config (with_entry journal (if fits then (record { reply = reply; entry = Some e }) else no_entry (journal_full code)).entry)
fitted_by config journal code reply e true lawful with_it = with_it
fitted_by config journal code reply e false lawful with_it = lawful

fitted_lawful : (config : Config) (journal : List Entry) (size : ℕ) (code : List ℕ) (reply : Reply) (e : Option Entry) → Lawful config journal
    → Lawful config (with_entry journal e) → Lawful config (with_entry journal (fitted size code reply e).entry)
fitted_lawful config journal size code reply None lawful with_it = lawful
fitted_lawful config journal size code reply (Some e) lawful with_it = fitted_by config journal code reply e (fits_behind size e) lawful with_it

route_lawful : (config : Config) (journal : List Entry) (size : ℕ) (request : Request) (route : Route) (now : ℕ) → now ≤ 200_000_000_000 → Lawful config journal
    → Lawful config (with_entry journal (step_of route config (content_of config journal) size request now).entry)
route_lawful config journal size request Token now low lawful =
    let answer = exchange (content_of config journal) request now in
    fitted_lawful config journal size (codes "E26") answer.reply answer.entry lawful (exchange_lawful config journal request now low lawful)
route_lawful config journal size request (Generate account) now low lawful =
    let answer = generate (content_of config journal) account request now in
    fitted_lawful config journal size (codes "I12") answer.reply answer.entry lawful (generate_lawful config journal account request now low lawful)
route_lawful config journal size request Introspect now low lawful = lawful
route_lawful config journal size request Check now low lawful = lawful
route_lawful config journal size request Admin now low lawful =
    let answer = administration config.admin (content_of config journal) request in
    fitted_lawful config journal size (codes "A7") answer.reply answer.entry lawful (administration_lawful config journal config.admin request lawful)

pub step_lawful : (config : Config) (journal : List Entry) (request : Request) (now : ℕ) → now ≤ 200_000_000_000 → Lawful config journal
    → Lawful config (with_entry journal (step config journal request now).entry)
step_lawful config journal request now low lawful = route_lawful config journal (journal_size journal) request request.route now low lawful

-- ---- the state that a step leaves

pub state_left : (config : Config) (journal : List Entry) (added : Option Entry)
    → state_after (content_of config journal) (with_entry [] added) ≡ content_of config (with_entry journal added)
state_left config journal None = refl
state_left config journal (Some e) = sym (state_after-append (start_of config) journal (e ∷ []))
