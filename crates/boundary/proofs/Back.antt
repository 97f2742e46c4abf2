-- An exact boundary, written, reads back as itself.
use Rattle.std.proofs.Common.{◌≡◌, ℕ, suc, true, ◌&&◌, List, [], ◌∷◌, length, Option, None, Some, Ok, IfSome, refl, ap, nat_lt, nat_le, arith}
use Rattle.std.specs.List.{list_all, AllByRecursion}
use Rattle.std.proofs.lemmas.Bool.{and_parts}
use Rattle.std.proofs.lemmas.Bool.Decides.{nat_tests}
use Rattle.serde_json.specs.Data.{Data}
use Rattle.cel_expression.specs.declared.expression.Expression.{Expression}
use Rattle.iam_names.specs.Forms.{is_role, is_resource}
use Rattle.json_text.specs.Arrays.{count}
use Rattle.boundary.specs.declared.rules.Rule.{Rule}
use Rattle.boundary.specs.declared.rules.Boundary.{Boundary}
use Rattle.boundary.specs.Boundaries.{available_role, rule_of, rules_from, boundary_in}
use Rattle.boundary.specs.Exact.{is_count, is_rule, AreSaid, IsSaid, IsExactBoundary}
use Rattle.boundary.specs.Written.{items, role_data, rule_data, boundary_data, listed_boundary}
use Rattle.boundary.proofs.WrittenParts.{each_back}

count_items : {A : Type 0} (write : A → Data) (xs : List A) → count (items write xs) ≡ length xs
count_items write [] = refl
count_items write (x ∷ xs) = ap suc (count_items write xs)

-- what is counted is some, and few
some_counted : (n : ℕ) → is_count n ≡ true → nat_lt 0 n ≡ true
some_counted n is = let least = (and_parts (nat_le 1 n) (nat_le n 10) is).0 in grind (arith, nat_tests)

few_counted : (n : ℕ) → is_count n ≡ true → nat_le n 10 ≡ true
few_counted n is = (and_parts (nat_le 1 n) (nat_le n 10) is).1

role_back : (role : List ℕ) → is_role role ≡ true → available_role (role_data role) ≡ Some role
unfolding available_role
role_back role is = rw is refl

abbrev rule : List ℕ → List (List ℕ) → Option Expression → Rule
rule resource roles condition = record { resource = resource; roles = roles; condition = condition }

parts_back : (number : ℕ) (resource : List ℕ) (roles : List (List ℕ)) (condition : Option Expression) → is_resource resource ≡ true
    → is_count (length roles) ≡ true → list_all is_role roles ≡ true → IfSome condition IsSaid
    → rule_of number (rule_data (rule resource roles condition)) ≡ Ok (rule resource roles condition)
unfolding rule_of rule_data
parts_back number resource roles None named few are said = rw (
  named,
  count_items role_data roles,
  few_counted (length roles) few,
  each_back role_data available_role is_role role_back roles are,
  some_counted (length roles) few,
) refl
parts_back number resource roles (Some e) named few are said = rw (
  named,
  count_items role_data roles,
  few_counted (length roles) few,
  each_back role_data available_role is_role role_back roles are,
  some_counted (length roles) few,
  said.read,
) refl

rule_back : (number : ℕ) (given : Rule) → is_rule given ≡ true → AreSaid given → rule_of number (rule_data given) ≡ Ok given
rule_back number given is said =
    let resource = and_parts (is_resource given.resource) (is_count (length given.roles) && list_all is_role given.roles) is in
    let roles = and_parts (is_count (length given.roles)) (list_all is_role given.roles) resource.1 in
    parts_back number given.resource given.roles given.condition resource.0 roles.0 roles.1 said

rules_back : (number : ℕ) (rules : List Rule) → list_all is_rule rules ≡ true → AllByRecursion AreSaid rules
    → rules_from number (items rule_data rules) ≡ Ok rules
rules_back number [] are said = refl
rules_back number (first ∷ rules) are said =
    let parts = and_parts (is_rule first) (list_all is_rule rules) are in
    rw (rule_back number first parts.0 said.0, rules_back (suc number) rules parts.1 said.1) refl

pub boundary_back : (boundary : Boundary) → IsExactBoundary boundary → listed_boundary (boundary_data boundary) ≡ Some boundary
unfolding boundary_data listed_boundary boundary_in
boundary_back boundary is =
    let rules = boundary.rules in
    let parts = and_parts (is_count (length rules)) (list_all is_rule rules) is.form in
    let size = count_items rule_data rules in
    rw (size, some_counted (length rules) parts.0, size, few_counted (length rules) parts.0, rules_back 0 rules parts.1 is.conditions) refl
