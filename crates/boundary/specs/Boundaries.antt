-- The boundary that a JSON value is, or the rule that is refused and why.
use Rattle.std.specs.Prelude.{ℕ, suc, List, [], ◌∷◌, length, nat_lt, nat_le, Option, None, Some, option_map, option_and_then, Result, Ok, codes}
use Rattle.serde_json.specs.Data.{Data, Items, no_items, item}
use Rattle.serde_json.specs.Find.{get, as_str, as_array}
use Rattle.base_types.specs.Forms.{passing}
use Rattle.base_types.specs.Steps.{◌>>=◌, needed}
use Rattle.iam_names.specs.Cuts.{after}
use Rattle.iam_names.specs.Forms.{is_role, is_resource}
use Rattle.cel_types.specs.declared.cel_type.CelType.{CelType}
use Rattle.cel_expression.specs.declared.expression.Expression.{Expression}
use Rattle.cel_reader.specs.Expressions.{expression_of}
use Rattle.allow_policy.specs.Conditions.{condition_names}
use Rattle.json_text.specs.Arrays.{count, short_list}
use Rattle.json_text.specs.Document.{text_at}
use Rattle.json_text.specs.Members.{name_at}
use Rattle.boundary.specs.declared.rules.Rule.{Rule}
use Rattle.boundary.specs.declared.rules.Boundary.{Boundary}
use Rattle.boundary.specs.declared.fault.BoundaryCause.{BoundaryCause}
use Rattle.boundary.specs.declared.fault.BoundaryCause.TheVariants.{Shape, TooMany, Resource, Permission, Condition}

-- which rule is refused, and why
pub record Refusal : Type 0 where
  pub rule : ℕ
  pub cause : BoundaryCause

abbrev pub refusal : ℕ → BoundaryCause → Refusal
refusal rule cause = record { rule = rule; cause = cause }

-- ---- a rule's members

-- the resource under `availableResource`
abbrev pub resource_at : Data → Option (List ℕ)
resource_at d = name_at is_resource (codes "availableResource") d

-- the role behind `inRole:`
abbrev pub role_of : List ℕ → Option (List ℕ)
role_of text = option_and_then (passing is_role) (after (codes "inRole:") text)

-- a text that says a role
unfoldable pub available_role : Data → Option (List ℕ)
available_role d = option_and_then role_of (as_str d)

-- an array of 1 to 10 roles
abbrev pub roles_of : Data → Option (List (List ℕ))
roles_of d = option_and_then (passing (λ roles. nat_lt 0 (length roles))) (short_list available_role 10 d)

-- the roles under `availablePermissions`
abbrev pub roles_at : Data → Option (List (List ℕ))
roles_at d = option_and_then roles_of (get (codes "availablePermissions") d)

-- the text of a condition as a boolean expression over what conditions see
abbrev pub condition_in : List ℕ → Option Expression
condition_in text = expression_of condition_names CelType.Bool text

-- the condition is absent, or an object with such a text under `expression`
abbrev pub condition_of : Option Data → Option (Option Expression)
condition_of None = Some None
condition_of (Some d) = option_map (λ e. Some e) (option_and_then condition_in (text_at (codes "expression") d))

-- the condition under `availabilityCondition`
abbrev pub condition_at : Data → Option (Option Expression)
condition_at d = condition_of (get (codes "availabilityCondition") d)

-- ---- rules

-- the rule of this number
unfoldable pub rule_of : ℕ → Data → Result Rule Refusal
rule_of number d = do
  resource ← needed (refusal number Resource) (resource_at d)
  roles ← needed (refusal number Permission) (roles_at d)
  condition ← needed (refusal number Condition) (condition_at d)
  Ok (record { resource = resource; roles = roles; condition = condition })

-- the rules of an array's items, of which the first has this number
abbrev pub rules_from : ℕ → Items → Result (List Rule) Refusal
rules_from number no_items = Ok []
rules_from number (item d ds) = rule_of number d >>= (λ rule. rules_from (suc number) ds >>= (λ rules. Ok (rule ∷ rules)))

-- ---- the boundary

-- the boundary of an array of 1 to 10 rules
unfoldable pub boundary_in : Items → Result Boundary Refusal
boundary_in items = do
  some ← needed (refusal 0 Shape) (passing (λ items. nat_lt 0 (count items)) items)
  few ← needed (refusal 10 TooMany) (passing (λ items. nat_le (count items) 10) some)
  rules ← rules_from 0 few
  Ok (record { rules = rules })

-- the boundary of an object with the array under `accessBoundaryRules`
unfoldable pub boundary_of : Data → Result Boundary Refusal
boundary_of d = needed (refusal 0 Shape) (option_and_then as_array (get (codes "accessBoundaryRules") d)) >>= boundary_in
