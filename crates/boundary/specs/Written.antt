-- A boundary as tokens and the journal hold it: an array of its rules.
use Rattle.std.specs.Prelude.{ℕ, List, [], ◌∷◌, ◌++◌, Option, None, Some, option_map, option_and_then, codes}
use Rattle.std.specs.Result.{result_ok}
use Rattle.serde_json.specs.Data.{Data, Items, Members, string, array, object, no_items, item, no_members, member}
use Rattle.serde_json.specs.Find.{as_array}
use Rattle.cel_expression.specs.declared.expression.Expression.{Expression}
use Rattle.boundary.specs.declared.rules.Rule.{Rule}
use Rattle.boundary.specs.declared.rules.Boundary.{Boundary}
use Rattle.boundary.specs.Boundaries.{boundary_in}

-- a member that may be left out
abbrev pub optional : List ℕ → Option Data → Members → Members
optional name None members = members
optional name (Some d) members = member name d members

-- the items of an array, each written
abbrev pub items : {A : Type 0} → (A → Data) → List A → Items
items write [] = no_items
items write (x ∷ xs) = item (write x) (items write xs)

-- the text of a role that is available
abbrev pub role_data : List ℕ → Data
role_data role = string (codes "inRole:" ++ role)

-- a condition, by its text
abbrev pub condition_data : Expression → Data
condition_data e = object (member (codes "expression") (string e.text) no_members)

-- a rule
unfoldable pub rule_data : Rule → Data
rule_data rule = object (
    optional (codes "availabilityCondition") (option_map condition_data rule.condition) (
    member (codes "availablePermissions") (array (items role_data rule.roles)) (
    member (codes "availableResource") (string rule.resource) no_members)))

-- the array of its rules
unfoldable pub boundary_data : Boundary → Data
boundary_data boundary = array (items rule_data boundary.rules)

-- the boundary that an array of rules is
unfoldable pub listed_boundary : Data → Option Boundary
listed_boundary d = option_and_then (λ rules. result_ok (boundary_in rules)) (as_array d)
