-- What is put: roles with their permissions, scope words with what they stand for, and policies at resources.
use Rattle.std.specs.Prelude.{ℕ, List, []}
use Rattle.base_types.specs.Named.{put}
use Rattle.allow_policy.specs.declared.binding.Binding.{Binding}
use Rattle.allow_policy.specs.declared.scope_set.ScopeSet.{ScopeSet}

-- what stands under the names of roles, scope words and resources
pub record Lists : Type 0 where
  pub roles : List (List ℕ × List (List ℕ))
  pub scopes : List (List ℕ × ScopeSet)
  pub policies : List (List ℕ × List Binding)

-- the lists, and for how many more puts there is memory
pub record Held : Type 0 where
  pub lists : Lists
  pub spare : ℕ

-- before the first put
abbrev pub no_lists : Lists
no_lists = record { roles = []; scopes = []; policies = [] }

-- the role put with its permissions, in place of what stands under its name
abbrev pub with_role : List ℕ → List (List ℕ) → Lists → Lists
with_role role permissions lists = record lists { roles = put role permissions lists.roles }

-- the scope word put with what it stands for, in place of what stands under it
abbrev pub with_scope : List ℕ → ScopeSet → Lists → Lists
with_scope word what lists = record lists { scopes = put word what lists.scopes }

-- the resource's policy put, in place of what stands at it
abbrev pub with_policy : List ℕ → List Binding → Lists → Lists
with_policy resource bindings lists = record lists { policies = put resource bindings lists.policies }
