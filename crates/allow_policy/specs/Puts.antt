-- When a put is refused.
use Rattle.std.specs.Prelude.{◌≡◌, ℕ, List, [], ◌∷◌, Bool, false, not, ◌&&◌, ◌||◌, nat_lt, nat_le, length, is_none, Option, None, Some, Result, Ok, Err}
use Rattle.std.specs.List.{list_all, list_any}
use Rattle.base_types.specs.Named.{value_at}
use Rattle.base_types.specs.Rules.{fails_if, first_of}
use Rattle.iam_names.specs.Roles.{knows}
use Rattle.allow_policy.specs.Lists.{Lists}
use Rattle.allow_policy.specs.declared.binding.Binding.{Binding}
use Rattle.allow_policy.specs.declared.put_fault.PutFault.{PutFault}
use Rattle.allow_policy.specs.declared.put_fault.PutFault.TheVariants.{UnknownRole, Limit, Memory}
use Rattle.allow_policy.specs.declared.scope_set.ScopeSet.{ScopeSet}
use Rattle.allow_policy.specs.declared.scope_set.ScopeSet.TheVariants.{All, List as Only}

-- the list has so many names, and this is none of them
abbrev pub is_full : {V : Type 0} → ℕ → List ℕ → List (List ℕ × V) → Bool
is_full most name rows = is_none (value_at name rows) && nat_le most (length rows)

-- over 256 permissions, or a 1,001st role
abbrev pub role_fault : Lists → List ℕ → List (List ℕ) → Option PutFault
role_fault lists role permissions = fails_if (nat_lt 256 (length permissions) || is_full 1000 role lists.roles) Limit

-- over 256 permissions
abbrev pub is_long : ScopeSet → Bool
is_long All = false
is_long (Only permissions) = nat_lt 256 (length permissions)

-- over 256 permissions, or a 1,001st scope word
abbrev pub scope_fault : Lists → List ℕ → ScopeSet → Option PutFault
scope_fault lists word what = fails_if (is_long what || is_full 1000 word lists.scopes) Limit

-- a binding's role is there
abbrev pub knows_role : Lists → Binding → Bool
knows_role lists binding = knows lists.roles binding.role

-- over 64 members
abbrev pub has_many_members : Binding → Bool
has_many_members binding = nat_lt 64 (length binding.members)

-- over 64 bindings, or over 64 members in one, or a 10,001st policy
abbrev pub is_over_limit : Lists → List ℕ → List Binding → Bool
is_over_limit lists resource bindings = nat_lt 64 (length bindings) || (list_any has_many_members bindings || is_full 10000 resource lists.policies)

-- an unknown role of a binding comes first
abbrev pub policy_fault : Lists → List ℕ → List Binding → Option PutFault
policy_fault lists resource bindings =
    first_of (fails_if (not (list_all (knows_role lists) bindings)) UnknownRole ∷ fails_if (is_over_limit lists resource bindings) Limit ∷ [])

-- Ok exactly where there is no fault, and each refusal is the fault; want of memory says nothing
abbrev pub RefusesBy : {X : Type 0} → Option PutFault → Result X PutFault → Type 0
RefusesBy fault (Ok x) = fault ≡ None
RefusesBy fault (Err UnknownRole) = fault ≡ Some UnknownRole
RefusesBy fault (Err Limit) = fault ≡ Some Limit
RefusesBy fault (Err Memory) = Unit {0}
