-- What a gate decides of a token by what it carries.
use Rattle.std.specs.Prelude.{ℕ, ◌+◌, List, [], ◌∷◌, ◌++◌, Bool, true, false, if◌then◌else◌}
use Rattle.std.specs.Prelude.{Option, None, Some, option_map, nat_lt, Result, Ok, Err}
use Rattle.base_types.specs.Rules.{first_failing}
use Rattle.allow_policy.specs.Granting.{granted, scope_allows}
use Rattle.boundary.specs.Allowing.{boundary_allows}
use Rattle.boundary.specs.declared.rules.Boundary.{Boundary}
use Rattle.service_view.specs.View.{View, pool_enabled, account_enabled}
use Rattle.access_token.specs.declared.facts.Facts.{Facts}
use Rattle.grant_gate.specs.Carried.{carried_of}
use Rattle.grant_gate.specs.declared.decision.Decision.{Decision}
use Rattle.grant_gate.specs.declared.decision.Decision.TheVariants.{Admit, Deny}
use Rattle.grant_gate.specs.declared.decision.GateRule.{GateRule}
use Rattle.grant_gate.specs.declared.decision.GateRule.TheVariants.{G1, G2, G3, G4, G5, G6, G7, G8, G9}
use Rattle.grant_gate.specs.declared.fault.GateFault.{GateFault}
use Rattle.grant_gate.specs.declared.fault.GateFault.TheVariants as fault

-- the least place of an element that fails the test
abbrev pub place_failing : {A : Type 0} → (A → Bool) → List A → Option ℕ
place_failing test [] = None
place_failing test (x ∷ xs) = if test x then option_map (λ place. place + 1) (place_failing test xs) else Some 0

-- denied by the rule with the place, where there is one
abbrev pub denied_at : GateRule → Option ℕ → Option Decision
denied_at rule place = option_map (Deny rule) place

-- denied by the rule where the test fails
abbrev pub denied_unless : Bool → GateRule → Option Decision
denied_unless true rule = None
denied_unless false rule = Some (Deny rule 0)

-- whether one of the words allows the permission
abbrev pub words_allow : View → List ℕ → List (List ℕ) → Bool
words_allow view permission words = scope_allows view.lists words permission

-- whether the boundary allows the permission on the resource, by the roles of now
abbrev pub boundary_holds : View → List ℕ → List ℕ → ℕ → Boundary → Bool
boundary_holds view permission resource now boundary = boundary_allows view.lists.roles boundary permission resource now

-- the rules that facts can fail, but for the boundaries and the grant
abbrev pub denials_before : View → Facts → List ℕ → ℕ → List (Option Decision)
denials_before view facts permission now =
    denied_unless (nat_lt now facts.exp) G4 ∷
    denied_at G5 (place_failing (pool_enabled view) facts.pools) ∷
    denied_at G6 (place_failing (account_enabled view) facts.accounts) ∷
    denied_at G7 (place_failing (words_allow view permission) facts.scopes) ∷ []

-- and those of the boundaries
abbrev pub denials : View → Facts → List ℕ → List ℕ → ℕ → List (Option Decision)
denials view facts permission resource now =
    denials_before view facts permission now
    ++ denied_at G8 (place_failing (boundary_holds view permission resource now) facts.bounds) ∷ []

-- admitted where it is granted
abbrev pub granted_or : Bool → Decision
granted_or true = Admit
granted_or false = Deny G9 0

-- the first rule that the facts fail, or they are admitted
unfoldable pub facts_decision : View → Facts → List ℕ → List ℕ → ℕ → Decision
facts_decision view facts permission resource now =
    first_failing (denials view facts permission resource now) (granted_or (granted view.lists facts.who permission resource now))

-- The rule that stands for a fault. Want of memory is no fault of a text.
abbrev pub fault_decision : GateFault → Decision
fault_decision fault.Shape = Deny G1 0
fault_decision fault.Mac = Deny G2 0
fault_decision fault.Claims = Deny G3 0
fault_decision fault.Memory = Deny G1 0

-- by the facts, or by the fault for which there are none
abbrev pub decided : View → Result Facts GateFault → List ℕ → List ℕ → ℕ → Decision
decided view (Err f) permission resource now = fault_decision f
decided view (Ok facts) permission resource now = facts_decision view facts permission resource now

-- what the text carries decides, with what stands now under the names; no link is looked at
unfoldable pub carried_decision : View → List ℕ → List ℕ → List ℕ → List ℕ → List ℕ → ℕ → Decision
carried_decision view key issuer text permission resource now = decided view (carried_of key issuer text) permission resource now
