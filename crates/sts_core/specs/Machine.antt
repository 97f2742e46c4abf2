-- The machine: what the service replies to a request, and which entry it adds to its journal.
use Rattle.std.specs.Prelude.{ℕ, List, [], ◌∷◌, ◌++◌, Bool, false, not, if◌then◌else◌}
use Rattle.std.specs.Prelude.{Option, None, Some, codes, Result, Ok, Err}
use Rattle.std.specs.Str.{bytes_eq}
use Rattle.base_types.specs.Rules.{fails_if, first_failing}
use Rattle.wif_base.specs.declared.route.Route.{Route}
use Rattle.wif_base.specs.declared.route.Route.TheVariants.{Token, Generate, Introspect, Check, Admin}
use Rattle.wif_base.specs.declared.request.Request.{Request}
use Rattle.wif_base.specs.declared.request.Reply.{Reply}
use Rattle.service_config.specs.declared.config.Config.{Config}
use Rattle.links.specs.declared.entry.Entry.{Entry}
use Rattle.links.specs.declared.entry.Entry.TheVariants.{Put}
use Rattle.serde_json.specs.Data.{Data}
use Rattle.json_text.specs.Document.{text_at}
use Rattle.iam_names.specs.Forms.{is_permission, is_resource}
use Rattle.json_text.specs.Members.{name_at}
use Rattle.sts_core.specs.Check.{check_decision, issued_chain}
use Rattle.service_view.specs.declared.command.Command.{Command}
use Rattle.sts_admin.specs.declared.command.CommandFault.{CommandFault}
use Rattle.sts_admin.specs.Commands.{command_of}
use Rattle.entry_rules.specs.declared.fault.RuleCode.{RuleCode}
use Rattle.access_token.specs.Active.{active_text}
use Rattle.links.specs.Chain.{Chain}
use Rattle.links.specs.Facts.{facts_of}
use Rattle.links.specs.Licence.{first_unlicensed, prepared_of}
use Rattle.links.specs.Authority.{live}
use Rattle.links.specs.State.{Content, content_of}
use Rattle.sts_core.specs.Asked.{asked_for}
use Rattle.exchange_form.specs.declared.exchange_rule.ExchangeRule.{ExchangeRule}
use Rattle.exchange_form.specs.Forms.{form_of, is_all_text, object_of, once}
use Rattle.sts_core.specs.Generated.{generated_for}
use Rattle.sts_replies.specs.declared.generate_rule.GenerateRule.{GenerateRule}
use Rattle.sts_replies.specs.Refusals.{refusal_of, exchange_refusal, generate_refusal, command_refusal}
use Rattle.service_journal.specs.Journals.{fits_behind, journal_size}
use Rattle.sts_replies.specs.Replies.{u1, n1, n2, a1, bad_argument, decision_reply, inactive, issued, generated, entered, journal_full}

-- the reply to a request, and the entry that it adds to the journal, if any
pub record Answer : Type 0 where
  pub reply : Reply
  pub entry : Option Entry

-- a reply that records nothing
abbrev pub no_entry : Reply → Answer
no_entry reply = record { reply = reply; entry = None }

-- ---- introspection (RFC 7662)

-- the bearer is the secret
abbrev pub is_bearer : List ℕ → Option (List ℕ) → Bool
is_bearer secret None = false
is_bearer secret (Some bearer) = bytes_eq bearer secret

-- a link that is live is told, and of any other token no more than that it isn't active
abbrev pub told : Content → ℕ → Option Chain → Reply
told c now None = inactive
told c now (Some chain) = if live c.view chain now then (record { status = 200; body = active_text c.issuer (facts_of chain) }) else inactive

-- of a text that isn't there once nothing is told
abbrev pub told_token : Content → ℕ → Option (List ℕ) → Reply
told_token c now None = n2
told_token c now (Some token) = told c now (issued_chain c token)

-- the reply to an introspection: the bearer comes first, then the form, then the token
unfoldable pub introspection_reply : List ℕ → Content → Request → ℕ → Reply
introspection_reply gate c request now = first_failing (
    fails_if (not (is_bearer gate request.bearer)) u1 ∷
    fails_if (not (is_all_text (form_of request.body))) n1 ∷ []
    ) (told_token c now (once (codes "token") (form_of request.body)))

-- ---- the exchange (RFC 8693)

-- a rule forbids the entry, or the token is issued
abbrev pub ruled : Content → Entry → Option RuleCode → Answer
ruled c entry (Some rule) = no_entry (refusal_of rule)
ruled c entry None = record { reply = issued (prepared_of c entry); entry = Some entry }

-- a form that fails a rule is refused, and the entry that another asks for is ruled on
abbrev pub exchanged : Content → Result Entry ExchangeRule → Answer
exchanged c (Err rule) = no_entry (exchange_refusal rule)
exchanged c (Ok entry) = ruled c entry (first_unlicensed c entry)

-- what is asked for is issued, where no rule forbids it
abbrev pub exchange : Content → Request → ℕ → Answer
exchange c request now = exchanged c (asked_for c (form_of request.body) now)

-- ---- impersonation

-- a rule forbids the entry, or the service account's token is issued
abbrev pub generate_ruled : Content → Entry → Option RuleCode → Answer
generate_ruled c entry (Some rule) = no_entry (refusal_of rule)
generate_ruled c entry None = record { reply = generated (prepared_of c entry); entry = Some entry }

-- a request that fails a rule is refused, and the entry that another asks for is ruled on
abbrev pub generate_asked : Content → Result Entry GenerateRule → Answer
generate_asked c (Err rule) = no_entry (generate_refusal rule)
generate_asked c (Ok entry) = generate_ruled c entry (first_unlicensed c entry)

-- the token of that service account is issued, where no rule forbids it
abbrev pub generate : Content → List ℕ → Request → ℕ → Answer
generate c account request now = generate_asked c (generated_for c account request now)

-- ---- commands

-- a rule forbids the command, or it is recorded
abbrev pub commanded_by : Content → Command → Option RuleCode → Answer
commanded_by c command (Some rule) = no_entry (refusal_of rule)
commanded_by c command None = record { reply = entered (c.count); entry = Some (Put command) }

-- what is no command is refused, and a command is ruled on
abbrev pub commanded : Content → Result Command CommandFault → Answer
commanded c (Err fault) = no_entry (command_refusal fault)
commanded c (Ok command) = commanded_by c command (first_unlicensed c (Put command))

-- a body that is no object is refused, and what an object asks for is read and ruled on
abbrev pub command_in : Content → Option Data → Answer
command_in c None = no_entry a1
command_in c (Some d) = commanded c (command_of d)

-- the command is recorded, where the bearer is the secret and no rule forbids it
unfoldable pub administration : List ℕ → Content → Request → Answer
administration secret c request = if is_bearer secret request.bearer then command_in c (object_of request.body) else no_entry u1

-- ---- checks

-- a check names a token, a permission and a resource, each of its form, and is refused at the first that it lacks
abbrev pub check_asked : Content → ℕ → Option (List ℕ) → Option (List ℕ) → Option (List ℕ) → Reply
check_asked c now None permission resource = bad_argument (codes "C2")
check_asked c now (Some token) None resource = bad_argument (codes "C3")
check_asked c now (Some token) (Some permission) None = bad_argument (codes "C4")
check_asked c now (Some token) (Some permission) (Some resource) = decision_reply (check_decision c token permission resource now)

-- a body that is no object is refused, and what an object asks for is decided
abbrev pub check_in : Content → ℕ → Option Data → Reply
check_in c now None = bad_argument (codes "C1")
check_in c now (Some d) =
    check_asked c now (text_at (codes "token") d) (name_at is_permission (codes "permission") d) (name_at is_resource (codes "resource") d)

-- the permission on the resource is admitted or denied, where the bearer is the secret
unfoldable pub checking : List ℕ → Content → Request → ℕ → Reply
checking gate c request now = if is_bearer gate request.bearer then check_in c now (object_of request.body) else u1

-- ---- the journal's room

-- the reply and its entry, where the entry fits behind a journal of so many bytes; else the journal is full
abbrev pub fitted : ℕ → List ℕ → Reply → Option Entry → Answer
fitted size code reply None = no_entry reply
fitted size code reply (Some entry) = if fits_behind size entry then (record { reply = reply; entry = Some entry }) else no_entry (journal_full code)

-- the answer, where its entry fits behind a journal of so many bytes
abbrev pub where_it_fits : ℕ → List ℕ → Answer → Answer
where_it_fits size code answer = fitted size code answer.reply answer.entry

-- ---- any request

-- the machine's answer to a request of a route, over a journal of so many bytes
abbrev pub step_of : Route → Config → Content → ℕ → Request → ℕ → Answer
step_of Token config c size request now = where_it_fits size (codes "E26") (exchange c request now)
step_of (Generate account) config c size request now = where_it_fits size (codes "I12") (generate c account request now)
step_of Introspect config c size request now = no_entry (introspection_reply config.gate c request now)
step_of Check config c size request now = no_entry (checking config.gate c request now)
step_of Admin config c size request now = where_it_fits size (codes "A7") (administration config.admin c request)

-- the machine's answer to a request over a journal
abbrev pub step : Config → List Entry → Request → ℕ → Answer
step config journal request now = step_of request.route config (content_of config journal) (journal_size journal) request now

-- the answer to an exchange over a journal
abbrev pub exchange_answer : Config → List Entry → Request → ℕ → Answer
exchange_answer config journal request now = where_it_fits (journal_size journal) (codes "E26") (exchange (content_of config journal) request now)

-- the answer to a request for an account's token over a journal
abbrev pub generate_answer : Config → List Entry → List ℕ → Request → ℕ → Answer
generate_answer config journal account request now =
    where_it_fits (journal_size journal) (codes "I12") (generate (content_of config journal) account request now)

-- the answer to a command over a journal
abbrev pub command_answer : Config → List Entry → Request → Answer
command_answer config journal request = where_it_fits (journal_size journal) (codes "A7") (administration config.admin (content_of config journal) request)

-- the journal with the entry, if there is one
abbrev pub with_entry : List Entry → Option Entry → List Entry
with_entry journal None = journal
with_entry journal (Some entry) = journal ++ entry ∷ []
