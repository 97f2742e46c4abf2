-- What a boundary allows, as facts.
use Rattle.std.specs.Prelude.{◌≡◌, ◌⊎◌, ℕ, true, List, ◌++◌, Ok, IfSome, IsSomeAnd, codes}
use Rattle.std.specs.List.{Any, Contains}
use Rattle.base_types.specs.Named.{value_at}
use Rattle.cel_values.specs.declared.value.Value.TheVariants as value
use Rattle.cel_eval.specs.Denotation.{denotation}
use Rattle.allow_policy.specs.Conditions.{condition_env}
use Rattle.boundary.specs.declared.rules.Rule.{Rule}
use Rattle.boundary.specs.Allowing.{RoleRows}

-- the same text, or one that begins with it and a slash
abbrev pub IsAtOrBelow : List ℕ → List ℕ → Type 0
IsAtOrBelow upper lower = (lower ≡ upper) ⊎ ((rest : List ℕ) × (lower ≡ upper ++ (codes "/" ++ rest)))

-- the role is there, and the permission among its permissions
abbrev pub HoldsPermission : RoleRows → List ℕ → List ℕ → Type 0
HoldsPermission roles permission role = IsSomeAnd (value_at role roles) (λ permissions. Contains permissions permission)

-- The resource stands at the rule's or below, a role of the rule holds the permission, and its condition, where it has one, is true.
pub record IsAllowedBy (roles : RoleRows) (permission resource : List ℕ) (now : ℕ) (rule : Rule) : Type 0 where
  pub resource_is : IsAtOrBelow rule.resource resource
  pub role : Any (HoldsPermission roles permission) rule.roles
  pub condition : IfSome rule.condition (λ e. denotation e.tree (condition_env resource now) ≡ Ok (value.Bool true))
