-- Who is granted what, and what scope words allow.
use Rattle.std.specs.Prelude.{ℕ, List, Bool, true, ◌&&◌, is_some}
use Rattle.std.specs.List.{list_any}
use Rattle.std.specs.Str.{bytes_eq}
use Rattle.base_types.specs.Named.{value_at}
use Rattle.iam_names.specs.Forms.{passes}
use Rattle.iam_names.specs.Member.{names_who}
use Rattle.iam_names.specs.Resource.{covers}
use Rattle.iam_names.specs.Roles.{holds}
use Rattle.iam_names.specs.declared.who.Who.{Who}
use Rattle.allow_policy.specs.Conditions.{condition_holds}
use Rattle.allow_policy.specs.Lists.{Lists}
use Rattle.allow_policy.specs.declared.binding.Binding.{Binding}
use Rattle.allow_policy.specs.declared.scope_set.ScopeSet.{ScopeSet}
use Rattle.allow_policy.specs.declared.scope_set.ScopeSet.TheVariants.{All, List as Only}

-- the binding's role holds the permission now, a member of it names who asks, and its condition holds
abbrev pub binding_grants : Lists → Who → List ℕ → List ℕ → ℕ → Binding → Bool
binding_grants lists who permission resource now binding =
    holds lists.roles binding.role permission
    && (list_any (λ member. names_who member who) binding.members && condition_holds binding.condition resource now)

-- the policy's resource covers the resource, and a binding of it grants
abbrev pub policy_grants : Lists → Who → List ℕ → List ℕ → ℕ → List ℕ × List Binding → Bool
policy_grants lists who permission resource now policy = covers policy.0 resource && list_any (binding_grants lists who permission resource now) policy.1

-- some policy grants the permission on the resource to who asks, at the moment
unfoldable pub granted : Lists → Who → List ℕ → List ℕ → ℕ → Bool
granted lists who permission resource now = list_any (policy_grants lists who permission resource now) lists.policies

-- what a scope word stands for has the permission
abbrev pub set_allows : List ℕ → ScopeSet → Bool
set_allows permission All = true
set_allows permission (Only permissions) = list_any (bytes_eq permission) permissions

-- the scope word is there, and what it stands for has the permission
abbrev pub word_allows : Lists → List ℕ → List ℕ → Bool
word_allows lists permission word = passes (set_allows permission) (value_at word lists.scopes)

-- some word is there and stands for all permissions or for a list with that one
unfoldable pub scope_allows : Lists → List (List ℕ) → List ℕ → Bool
scope_allows lists words permission = list_any (word_allows lists permission) words

-- the scope word is there
abbrev pub knows_scope : Lists → List ℕ → Bool
knows_scope lists word = is_some (value_at word lists.scopes)
