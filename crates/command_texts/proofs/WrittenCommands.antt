-- The object of a command is clean, and not deep.
use Rattle.std.proofs.Common.{◌≤◌, ℕ, Bool, List, [], ◌∷◌, map, Option, None, Some, option_map, IfSome, refl, arith, codes}
use Rattle.serde_json.specs.Data.{Members, boolean, string, array, no_members, member, depth, items_depth}
use Rattle.serde_json.specs.View.{items_of}
use Rattle.base_types.specs.Named.{InOrder}
use Rattle.iam_names.specs.declared.pool_name.PoolName.{PoolName}
use Rattle.json_text.specs.Clean.{IsClean, AreClean, HasCleanMembers}
use Rattle.cel_expression.specs.declared.expression.Expression.{Expression}
use Rattle.pools.specs.Providers.{ProviderView}
use Rattle.pools.specs.declared.mapping.Mapping.{Mapping}
use Rattle.allow_policy.specs.declared.binding.Binding.{Binding}
use Rattle.allow_policy.specs.declared.scope_set.ScopeSet.{ScopeSet}
use Rattle.allow_policy.specs.declared.scope_set.ScopeSet.TheVariants.{All, List as Only}
use Rattle.boundary.specs.Written.{items, condition_data}
use Rattle.boundary.proofs.WrittenParts.{after_optional, optional_clean, items_clean, deep, optional_deep, items_deep}
use Rattle.service_view.specs.declared.command.Command.{Command}
use Rattle.service_view.specs.declared.command.Command.TheVariants.{Pool, Provider, Account, Role, Scope, Policy}
use Rattle.command_texts.specs.Exact.{IsExactCommand}
use Rattle.command_texts.specs.Written.{expression_data, mapping_data, key_text, provider_data, member_data, binding_data, policy_data, pool_data, account_data, role_data, scope_set_data, scope_data, command_data}
use Rattle.command_texts.proofs.MappingMembers.{mapping_clean, mapping_deep}

-- ---- clean

texts_clean : (texts : List (List ℕ)) → AreClean (items_of (map string texts))
texts_clean [] = tt
texts_clean (text ∷ texts) = (tt, texts_clean texts)

said_clean : (o : Option Expression) → IfSome (option_map expression_data o) IsClean
said_clean None = tt
said_clean (Some e) = tt

condition_clean : (o : Option Expression) → IfSome (option_map condition_data o) IsClean
condition_clean None = tt
condition_clean (Some e) = (tt, tt, tt)

object_clean : (mapping : Mapping) → InOrder mapping.attributes → IsClean (mapping_data mapping)
unfolding mapping_data
object_clean mapping rising = mapping_clean mapping rising

-- the members of a provider behind its condition
abbrev behind : ProviderView → Members
behind provider =
    member (codes "disabled") (boolean provider.disabled) (
    member (codes "issuer") (string provider.issuer) (
    member (codes "key") (string (key_text provider.key)) (
    member (codes "kind") (string (codes "provider")) (
    member (codes "mapping") (mapping_data provider.mapping) (
    member (codes "pool") (string provider.name.pool.pool) (
    member (codes "project") (string provider.name.pool.project) (
    member (codes "provider") (string provider.name.provider) no_members)))))))

behind_clean : (provider : ProviderView) → InOrder provider.mapping.attributes → HasCleanMembers (behind provider)
behind_clean provider rising =
    let named : HasCleanMembers (member (codes "pool") (string provider.name.pool.pool) (member (codes "project") (string provider.name.pool.project) (member (codes "provider") (string provider.name.provider) no_members))) =
    (tt, (tt, (tt, tt, tt), (refl, tt)), (refl, (refl, tt))) in (
      tt,
      (
        tt,
        (tt, (tt, (object_clean provider.mapping rising, named, (refl, (refl, (refl, tt)))), (refl, (refl, (refl, (refl, tt))))), (refl, (refl, (refl, (refl, (refl, tt)))))),
        (refl, (refl, (refl, (refl, (refl, (refl, tt)))))),
      ),
      (refl, (refl, (refl, (refl, (refl, (refl, (refl, tt))))))),
    )

provider_clean : (provider : ProviderView) → InOrder provider.mapping.attributes → IsClean (provider_data provider)
unfolding provider_data
provider_clean provider rising =
    let condition = option_map expression_data provider.condition in (
      texts_clean provider.audiences,
      optional_clean (codes "condition") condition (behind provider) (said_clean provider.condition) (behind_clean provider rising)
          (refl, (refl, (refl, (refl, (refl, (refl, (refl, (refl, tt)))))))),
      after_optional (codes "audiences") (codes "condition") condition (behind provider) refl
          (refl, (refl, (refl, (refl, (refl, (refl, (refl, (refl, tt)))))))),
    )

binding_clean : (binding : Binding) → IsClean (binding_data binding)
unfolding binding_data
binding_clean binding =
    optional_clean (codes "condition") (option_map condition_data binding.condition)
    (member (codes "members") (array (items member_data binding.members)) (member (codes "role") (string binding.role) no_members))
    (condition_clean binding.condition)
    (items_clean member_data (λ m. tt) binding.members, (tt, tt, tt), (refl, tt))
    (refl, (refl, tt))

policy_clean : (resource : List ℕ) (bindings : List Binding) → IsClean (policy_data resource bindings)
unfolding policy_data
policy_clean resource bindings = (items_clean binding_data binding_clean bindings, (tt, (tt, tt, tt), (refl, tt)), (refl, (refl, tt)))

pool_clean : (pool : PoolName) (disabled : Bool) → IsClean (pool_data pool disabled)
unfolding pool_data
pool_clean pool disabled = (tt, (tt, (tt, (tt, tt, tt), (refl, tt)), (refl, (refl, tt))), (refl, (refl, (refl, tt))))

account_clean : (account : List ℕ) (disabled : Bool) → IsClean (account_data account disabled)
unfolding account_data
account_clean account disabled = (tt, (tt, (tt, tt, tt), (refl, tt)), (refl, (refl, tt)))

role_clean : (role : List ℕ) (permissions : List (List ℕ)) → IsClean (role_data role permissions)
unfolding role_data
role_clean role permissions = (tt, (texts_clean permissions, (tt, tt, tt), (refl, tt)), (refl, (refl, tt)))

set_clean : (set : ScopeSet) → IsClean (scope_set_data set)
set_clean All = tt
set_clean (Only permissions) = texts_clean permissions

scope_clean : (word : List ℕ) (set : ScopeSet) → IsClean (scope_data word set)
unfolding scope_data
scope_clean word set = (tt, (set_clean set, (tt, tt, tt), (refl, tt)), (refl, (refl, tt)))

pub command_clean : (command : Command) → IsExactCommand command → IsClean (command_data command)
unfolding command_data
command_clean (Pool pool disabled) is = pool_clean pool disabled
command_clean (Provider provider) is = provider_clean provider is.formed.rising
command_clean (Account account disabled) is = account_clean account disabled
command_clean (Role role permissions) is = role_clean role permissions
command_clean (Scope word permissions) is = scope_clean word permissions
command_clean (Policy resource bindings) is = policy_clean resource bindings

-- ---- not deep

texts_deep : (texts : List (List ℕ)) → items_depth (items_of (map string texts)) ≤ 0
texts_deep [] = omega arith
texts_deep (text ∷ texts) = omega (arith, texts_deep texts)

said_deep : (o : Option Expression) → deep (option_map expression_data o) ≤ 0
unfolding deep
said_deep None = omega arith
said_deep (Some e) = omega arith

condition_deep : (o : Option Expression) → deep (option_map condition_data o) ≤ 1
unfolding deep
condition_deep None = omega arith
condition_deep (Some e) = omega arith

object_deep : (mapping : Mapping) → depth (mapping_data mapping) ≤ 1
unfolding mapping_data
object_deep mapping = omega (arith, mapping_deep mapping)

provider_deep : (provider : ProviderView) → depth (provider_data provider) ≤ 2
unfolding provider_data
provider_deep provider = omega (
  arith,
  texts_deep provider.audiences,
  optional_deep (codes "condition") (option_map expression_data provider.condition) (behind provider),
  said_deep provider.condition,
  object_deep provider.mapping,
)

binding_deep : (binding : Binding) → depth (binding_data binding) ≤ 2
unfolding binding_data
binding_deep binding = omega (
  arith,
  optional_deep (codes "condition") (option_map condition_data binding.condition)
      (member (codes "members") (array (items member_data binding.members)) (member (codes "role") (string binding.role) no_members)),
  condition_deep binding.condition,
  items_deep member_data 0 (λ m. omega arith) binding.members,
)

policy_deep : (resource : List ℕ) (bindings : List Binding) → depth (policy_data resource bindings) ≤ 4
unfolding policy_data
policy_deep resource bindings = omega (arith, items_deep binding_data 2 binding_deep bindings)

pool_deep : (pool : PoolName) (disabled : Bool) → depth (pool_data pool disabled) ≤ 1
unfolding pool_data
pool_deep pool disabled = omega arith

account_deep : (account : List ℕ) (disabled : Bool) → depth (account_data account disabled) ≤ 1
unfolding account_data
account_deep account disabled = omega arith

role_deep : (role : List ℕ) (permissions : List (List ℕ)) → depth (role_data role permissions) ≤ 2
unfolding role_data
role_deep role permissions = omega (arith, texts_deep permissions)

set_deep : (set : ScopeSet) → depth (scope_set_data set) ≤ 1
set_deep All = omega arith
set_deep (Only permissions) = omega (arith, texts_deep permissions)

scope_deep : (word : List ℕ) (set : ScopeSet) → depth (scope_data word set) ≤ 2
unfolding scope_data
scope_deep word set = omega (arith, set_deep set)

pub command_deep : (command : Command) → depth (command_data command) ≤ 8
unfolding command_data
command_deep (Pool pool disabled) = omega (arith, pool_deep pool disabled)
command_deep (Provider provider) = omega (arith, provider_deep provider)
command_deep (Account account disabled) = omega (arith, account_deep account disabled)
command_deep (Role role permissions) = omega (arith, role_deep role permissions)
command_deep (Scope word permissions) = omega (arith, scope_deep word permissions)
command_deep (Policy resource bindings) = omega (arith, policy_deep resource bindings)
