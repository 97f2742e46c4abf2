-- A command's object: no part of it is a float, and what an exact command's is.
use Rattle.std.proofs.Common.{◌≡◌, ℕ, List, [], ◌∷◌, Bool, false, Option, None, Some, option_map, IfSome, codes, refl}
use Rattle.serde_json.specs.Data.{Members, boolean, string, array, no_members, member}
use Rattle.serde_json.specs.Written.{has_float, members_have_float}
use Rattle.json_text.specs.Document.{texts_data}
use Rattle.iam_names.specs.declared.pool_name.PoolName.{PoolName}
use Rattle.cel_expression.specs.declared.expression.Expression.{Expression}
use Rattle.pools.specs.Providers.{ProviderView}
use Rattle.pools.specs.declared.mapping.Mapping.{Mapping}
use Rattle.allow_policy.specs.declared.binding.Binding.{Binding}
use Rattle.allow_policy.specs.declared.scope_set.ScopeSet.{ScopeSet}
use Rattle.allow_policy.specs.declared.scope_set.ScopeSet.TheVariants.{All, List as Only}
use Rattle.boundary.specs.Written.{optional, items, condition_data}
use Rattle.boundary.proofs.WrittenParts.{items_mapped, optional_floatless, items_floatless}
use Rattle.service_view.specs.Commands.{IsCommand}
use Rattle.service_view.specs.declared.command.Command.{Command}
use Rattle.service_view.specs.declared.command.Command.TheVariants.{Pool, Provider, Account, Role, Scope, Policy}
use Rattle.command_texts.specs.Exact.{IsExactCommand}
use Rattle.command_texts.specs.Written.{expression_data, with_attributes, mapping_data, key_text, provider_data, member_data, binding_data, policy_data, pool_data, account_data, role_data, scope_data, command_data}

texts_floatless : (xs : List (List ℕ)) → has_float (texts_data xs) ≡ false
texts_floatless xs = rw (items_mapped string xs, items_floatless string (λ x. refl) xs) refl

expression_floatless : (o : Option Expression) → IfSome (option_map expression_data o) (λ d. has_float d ≡ false)
expression_floatless None = tt
expression_floatless (Some e) = refl

condition_floatless : (o : Option Expression) → IfSome (option_map condition_data o) (λ d. has_float d ≡ false)
condition_floatless None = tt
condition_floatless (Some e) = refl

attributes_floatless : (rows : List (List ℕ × Expression)) (behind : Members) → members_have_float behind ≡ false → members_have_float (with_attributes rows behind) ≡ false
attributes_floatless [] behind rest = rest
attributes_floatless (row ∷ rows) behind rest = attributes_floatless rows behind rest

mapping_floatless : (mapping : Mapping) → has_float (mapping_data mapping) ≡ false
unfolding mapping_data
mapping_floatless mapping =
    attributes_floatless mapping.attributes
    (optional (codes "google.groups") (option_map expression_data mapping.groups) (member (codes "google.subject") (expression_data mapping.subject) no_members))
    (optional_floatless (codes "google.groups") (option_map expression_data mapping.groups) (member (codes "google.subject") (expression_data mapping.subject) no_members)
    (expression_floatless mapping.groups) refl)

provider_floatless : (provider : ProviderView) → has_float (provider_data provider) ≡ false
unfolding provider_data
provider_floatless provider =
    let tail = member (codes "disabled") (boolean provider.disabled) (
    member (codes "issuer") (string provider.issuer) (
    member (codes "key") (string (key_text provider.key)) (
    member (codes "kind") (string (codes "provider")) (
    member (codes "mapping") (mapping_data provider.mapping) (
    member (codes "pool") (string provider.name.pool.pool) (
    member (codes "project") (string provider.name.pool.project) (
    member (codes "provider") (string provider.name.provider) no_members))))))) in
    let rest = optional_floatless (codes "condition") (option_map expression_data provider.condition) tail (expression_floatless provider.condition) (rw (mapping_floatless provider.mapping) refl) in
    rw (texts_floatless provider.audiences) rest

binding_floatless : (binding : Binding) → has_float (binding_data binding) ≡ false
unfolding binding_data
binding_floatless binding =
    optional_floatless (codes "condition") (option_map condition_data binding.condition)
    (member (codes "members") (array (items member_data binding.members)) (member (codes "role") (string binding.role) no_members))
    (condition_floatless binding.condition)
    (rw (items_floatless member_data (λ m. refl) binding.members) refl)

policy_floatless : (resource : List ℕ) (bindings : List Binding) → has_float (policy_data resource bindings) ≡ false
unfolding policy_data
policy_floatless resource bindings = rw (items_floatless binding_data binding_floatless bindings) refl

pool_floatless : (pool : PoolName) (disabled : Bool) → has_float (pool_data pool disabled) ≡ false
unfolding pool_data
pool_floatless pool disabled = refl

account_floatless : (account : List ℕ) (disabled : Bool) → has_float (account_data account disabled) ≡ false
unfolding account_data
account_floatless account disabled = refl

role_floatless : (role : List ℕ) (permissions : List (List ℕ)) → has_float (role_data role permissions) ≡ false
unfolding role_data
role_floatless role permissions = rw (texts_floatless permissions) refl

scope_floatless : (word : List ℕ) (set : ScopeSet) → has_float (scope_data word set) ≡ false
unfolding scope_data
scope_floatless word All = refl
scope_floatless word (Only permissions) = rw (texts_floatless permissions) refl

pub command_floatless : (command : Command) → has_float (command_data command) ≡ false
unfolding command_data
command_floatless (Pool pool disabled) = pool_floatless pool disabled
command_floatless (Provider provider) = provider_floatless provider
command_floatless (Account account disabled) = account_floatless account disabled
command_floatless (Role role permissions) = role_floatless role permissions
command_floatless (Scope word permissions) = scope_floatless word permissions
command_floatless (Policy resource bindings) = policy_floatless resource bindings

pub command_formed : (command : Command) → IsExactCommand command → IsCommand command
command_formed (Pool pool disabled) is = tt
command_formed (Provider provider) is = is.formed
command_formed (Account account disabled) is = tt
command_formed (Role role permissions) is = tt
command_formed (Scope word permissions) is = tt
command_formed (Policy resource bindings) is = tt
