-- What a boundary allows, as tests.
use Rattle.std.specs.Prelude.{ℕ, List, Bool, ◌&&◌}
use Rattle.std.specs.List.{list_any}
use Rattle.iam_names.specs.Resource.{covers}
use Rattle.iam_names.specs.Roles.{holds}
use Rattle.allow_policy.specs.Conditions.{condition_holds}
use Rattle.boundary.specs.declared.rules.Rule.{Rule}
use Rattle.boundary.specs.declared.rules.Boundary.{Boundary}

-- roles with their permissions
abbrev pub RoleRows : Type 0
RoleRows = List (List ℕ × List (List ℕ))

-- the rule's resource covers the resource, a role of it holds the permission now, and its condition holds
abbrev pub rule_allows : RoleRows → List ℕ → List ℕ → ℕ → Rule → Bool
rule_allows roles permission resource now rule =
    covers rule.resource resource
    && (list_any (λ role. holds roles role permission) rule.roles && condition_holds rule.condition resource now)

-- some rule allows the permission on the resource at the moment
unfoldable pub boundary_allows : RoleRows → Boundary → List ℕ → List ℕ → ℕ → Bool
boundary_allows roles boundary permission resource now = list_any (rule_allows roles permission resource now) boundary.rules
