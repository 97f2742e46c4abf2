-- Boundaries of their forms.
use Rattle.std.specs.Prelude.{◌≡◌, ℕ, Bool, true, ◌&&◌, length, nat_le, IfSome, Some}
use Rattle.std.specs.List.{AllByRecursion, list_all}
use Rattle.std.specs.Str.{IsUtf8}
use Rattle.cel_expression.specs.declared.expression.Expression.{Expression}
use Rattle.iam_names.specs.Forms.{is_resource, is_role}
use Rattle.boundary.specs.declared.rules.Rule.{Rule}
use Rattle.boundary.specs.declared.rules.Boundary.{Boundary}
use Rattle.boundary.specs.Boundaries.{condition_in}

-- 1 to 10
abbrev pub is_count : ℕ → Bool
is_count n = nat_le 1 n && nat_le n 10

-- a resource, and 1 to 10 roles
abbrev pub is_rule : Rule → Bool
is_rule rule = is_resource rule.resource && (is_count (length rule.roles) && list_all is_role rule.roles)

-- 1 to 10 rules
abbrev pub is_boundary : Boundary → Bool
is_boundary boundary = is_count (length boundary.rules) && list_all is_rule boundary.rules

-- the condition is the one that its text says
pub record IsSaid (e : Expression) : Type 0 where
  pub utf8 : IsUtf8 e.text
  pub read : condition_in e.text ≡ Some e

-- so it is where the rule has one
abbrev pub AreSaid : Rule → Type 0
AreSaid rule = IfSome rule.condition IsSaid

-- a boundary whose rules have their forms, and whose conditions are those that their texts say
pub record IsExactBoundary (boundary : Boundary) : Type 0 where
  pub form : is_boundary boundary ≡ true
  pub conditions : AllByRecursion AreSaid boundary.rules
