-- Which entries a state licenses.
use Rattle.std.specs.Prelude.{◌≡◌, ℕ, Bool, true, false, not, List, [], ◌∷◌, ◌++◌, length, Option, None, Some, is_some, option_map, nat_lt, ⊤}
use Rattle.std.specs.Str.{bytes_eq}
use Rattle.std.specs.List.{list_all}
use Rattle.base_types.specs.Named.{value_at}
use Rattle.base_types.specs.Rules.{fails_if, first_of}
use Rattle.boundary.specs.declared.rules.Boundary.{Boundary}
use Rattle.boundary.specs.declared.rules.Rule.{Rule}
use Rattle.links.specs.declared.entry.Entry.{Entry}
use Rattle.links.specs.declared.entry.Entry.TheVariants as entry
use Rattle.links.specs.declared.entry.Exchange.{Exchange}
use Rattle.links.specs.declared.entry.Narrowing.{Narrowing}
use Rattle.links.specs.declared.entry.Impersonation.{Impersonation}
use Rattle.links.specs.declared.entry.Delegation.{Delegation}
use Rattle.entry_rules.specs.declared.fault.RuleCode.{RuleCode}
use Rattle.entry_rules.specs.declared.fault.RuleCode.TheVariants.{E11, E12, E21, E22, E23, E24, E25, I5, I8, I9, I10, I11, A4, A6}
use Rattle.entry_rules.specs.Passing.{fault_of}
use Rattle.entry_rules.specs.declared.fault.ApplyFault.{ApplyFault}
use Rattle.entry_rules.specs.declared.fault.ApplyFault.TheVariants.{Unlicensed, Memory}
use Rattle.access_token.specs.Facts.{name_of}
use Rattle.access_token.specs.Payload.{payload_text}
use Rattle.service_config.specs.declared.config.Config.{Config}
use Rattle.service_config.specs.Formed.{IsFormedConfig}
use Rattle.links.specs.Chain.{Chain}
use Rattle.links.specs.Entries.{IsEntry}
use Rattle.links.specs.Authority.{is_live}
use Rattle.links.specs.Facts.{depth_of, facts_of, may_act_of, who_of}
use Rattle.links.specs.Hops.{hops}
use Rattle.links.specs.Places.{place_of}
use Rattle.links.specs.Prepared.{PlannedEntry, PreparedEntry}
use Rattle.links.specs.Recorded.{recorded}
use Rattle.links.specs.State.{Content, start_of, chain, content_of, made, source_at, token_text, after}
use Rattle.allow_policy.specs.Granting.{knows_scope}
use Rattle.service_view.specs.declared.ready_fault.ReadyFault.{ReadyFault}
use Rattle.service_view.specs.declared.ready_fault.ReadyFault.TheVariants as ready
use Rattle.service_view.specs.Puts.{ready_fault}
use Rattle.service_view.specs.View.{account_enabled}

-- the scope word is there
abbrev pub knows_word : Content → List ℕ → Bool
knows_word c word = knows_scope c.view.lists word

-- the role is there
abbrev pub knows_role : Content → List ℕ → Bool
knows_role c role = is_some (value_at role c.view.lists.roles)

-- a role of the rule isn't there
abbrev pub has_unknown_role : Content → Rule → Bool
has_unknown_role c rule = not (list_all (knows_role c) rule.roles)

-- the first rule of the boundary that names an unknown role
abbrev pub unknown_role : Content → Boundary → Option RuleCode
unknown_role c boundary = option_map E12 (place_of (has_unknown_role c) boundary.rules)

-- the same of a boundary, if there is one
abbrev pub unknown_role_in : Content → Option Boundary → Option RuleCode
unknown_role_in c None = None
unknown_role_in c (Some boundary) = unknown_role c boundary

-- the chain is over 8 links long
abbrev pub is_deep : Option Chain → Bool
is_deep None = true
is_deep (Some chain) = nat_lt 8 (depth_of chain)

-- the chain's token has over 8,192 bytes
abbrev pub is_long : Content → Option Chain → Bool
is_long c None = true
is_long c (Some chain) = nat_lt 8192 (length (token_text c chain))

-- the code of what forbids a command
abbrev pub rule_of : ReadyFault → RuleCode
rule_of ready.UnknownPool = A4
rule_of ready.UnknownRole = A4
rule_of ready.Limit = A6
rule_of ready.Memory = A6

-- what is told of it
abbrev pub refusal_of : ReadyFault → ApplyFault
refusal_of ready.UnknownPool = Unlicensed A4
refusal_of ready.UnknownRole = Unlicensed A4
refusal_of ready.Limit = Unlicensed A6
refusal_of ready.Memory = Memory

-- the rules on an exchange, in order, but for the token's size
abbrev pub exchange_rules : Content → Exchange → List (Option RuleCode)
exchange_rules c x = fails_if (not (list_all (knows_word c) x.scope)) E11 ∷ fault_of (source_at c x.provider x.token x.at) ∷ []

-- the same on a narrowing
abbrev pub narrow_rules : Content → Narrowing → List (Option RuleCode)
narrow_rules c x =
    fails_if (not (list_all (knows_word c) x.scope)) E11 ∷
    unknown_role_in c x.boundary ∷
    fails_if (not (is_live c.view (chain c x.parent) x.at)) E21 ∷
    fails_if (is_deep (made c (entry.Narrow x))) E24 ∷ []

-- the first service account that is unknown or disabled
abbrev pub unknown_account : Content → List (List ℕ) → Option RuleCode
unknown_account c accounts = option_map I8 (place_of (λ account. not (account_enabled c.view account)) accounts)

-- the first hop that isn't allowed; without a link it is the first of all
abbrev pub failing_hop : Content → Option Chain → List (List ℕ) → ℕ → Option RuleCode
failing_hop c None accounts now = Some (I9 0)
failing_hop c (Some parent) accounts now = option_map I9 (place_of not (hops c.view parent accounts now))

-- the same on an impersonation
abbrev pub impersonation_rules : Content → Impersonation → List (Option RuleCode)
impersonation_rules c x =
    fails_if (not (list_all (knows_word c) x.scope)) I5 ∷
    unknown_account c x.accounts ∷
    failing_hop c (chain c x.parent) x.accounts x.at ∷
    fails_if (is_deep (made c (entry.Impersonate x))) I10 ∷ []

-- the first of the names is this one
abbrev pub begins_with_name : List ℕ → List (List ℕ) → Bool
begins_with_name name [] = false
begins_with_name name (first ∷ more) = bytes_eq first name

-- the subject names the actor as the next who may act (RFC 8693, section 4.4)
abbrev pub may_be_acted_for : Option Chain → Option Chain → Bool
may_be_acted_for None actor = false
may_be_acted_for (Some subject) None = false
may_be_acted_for (Some subject) (Some actor) = begins_with_name (name_of (who_of actor)) (may_act_of subject)

-- the same on a delegation
abbrev pub delegation_rules : Content → Delegation → List (Option RuleCode)
delegation_rules c x =
    fails_if (not (list_all (knows_word c) x.scope)) E11 ∷
    fails_if (not (is_live c.view (chain c x.subject) x.at)) E21 ∷
    fails_if (not (is_live c.view (chain c x.actor) x.at)) E22 ∷
    fails_if (not (may_be_acted_for (chain c x.subject) (chain c x.actor))) E23 ∷
    fails_if (is_deep (made c (entry.Delegate x))) E24 ∷ []

-- the rule on the size of the token, by its code
abbrev pub size_rule : Content → Entry → RuleCode → Option RuleCode
size_rule c e code = fails_if (is_long c (made c e)) code

-- The first rule that forbids recording the entry, or none.
unfoldable pub first_unlicensed : Content → Entry → Option RuleCode
first_unlicensed c (entry.Put command) = option_map rule_of (ready_fault c.view command)
first_unlicensed c (entry.Federated x) = first_of (exchange_rules c x ++ size_rule c (entry.Federated x) E25 ∷ [])
first_unlicensed c (entry.Narrow x) = first_of (narrow_rules c x ++ size_rule c (entry.Narrow x) E25 ∷ [])
first_unlicensed c (entry.Impersonate x) = first_of (impersonation_rules c x ++ size_rule c (entry.Impersonate x) I11 ∷ [])
first_unlicensed c (entry.Delegate x) = first_of (delegation_rules c x ++ size_rule c (entry.Delegate x) E25 ∷ [])

-- no rule forbids recording the entry
abbrev pub Licensed : Content → Entry → Type 0
Licensed c e = first_unlicensed c e ≡ None

-- each entry has its form, and was licensed by the state of the entries before it
abbrev pub LawfulFrom : Content → List Entry → Type 0
LawfulFrom c [] = ⊤
LawfulFrom c (e ∷ es) = (IsEntry e × Licensed c e) × LawfulFrom (after c e) es

-- a journal under a configuration
abbrev pub Lawful : Config → List Entry → Type 0
Lawful config journal = LawfulFrom (start_of config) journal

-- The content is the one that some lawful journal leaves under some configuration.
pub record Reached (c : Content) : Type 0 where
  pub config : Config
  pub formed : IsFormedConfig config
  pub journal : List Entry
  pub lawful : Lawful config journal
  pub content : c ≡ content_of config journal

-- the entry, with what is held of the link that it will record, and what its token says
abbrev pub prepared_of : Content → Entry → PreparedEntry
prepared_of c e = record {
  entry = e;
  recorded = option_map recorded (made c e);
  payload = option_map (λ chain. payload_text c.issuer (facts_of chain)) (made c e);
  token = option_map (token_text c) (made c e);
}

-- the same, but for the token's text
abbrev pub planned_of : Content → Entry → PlannedEntry
planned_of c e = record {
  entry = e;
  recorded = option_map recorded (made c e);
  payload = option_map (λ chain. payload_text c.issuer (facts_of chain)) (made c e);
}
