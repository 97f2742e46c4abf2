-- A command as the journal holds it: an object of its kind and the members of that kind, each default put in.
use Rattle.std.specs.Prelude.{ℕ, List, [], ◌∷◌, ◌++◌, Bool, option_map, codes}
use Rattle.base64.specs.Engines.{url_safe_no_pad}
use Rattle.base64.specs.GeneralPurpose.{encode_of}
use Rattle.serde_json.specs.Data.{Data, Members, boolean, string, array, object, no_members, member}
use Rattle.json_text.specs.Document.{texts_data}
use Rattle.iam_names.specs.Member.{member_text}
use Rattle.iam_names.specs.declared.member.Member.{Member}
use Rattle.iam_names.specs.declared.pool_name.PoolName.{PoolName}
use Rattle.cel_expression.specs.declared.expression.Expression.{Expression}
use Rattle.pools.specs.Providers.{ProviderView}
use Rattle.pools.specs.declared.mapping.Mapping.{Mapping}
use Rattle.allow_policy.specs.declared.binding.Binding.{Binding}
use Rattle.allow_policy.specs.declared.scope_set.ScopeSet.{ScopeSet}
use Rattle.allow_policy.specs.declared.scope_set.ScopeSet.TheVariants.{All, List as Only}
use Rattle.boundary.specs.Written.{optional, items, condition_data}
use Rattle.service_view.specs.declared.command.Command.{Command}
use Rattle.service_view.specs.declared.command.Command.TheVariants.{Pool, Provider, Account, Role, Scope, Policy}

-- ---- a provider

-- an expression, by its text
abbrev pub expression_data : Expression → Data
expression_data e = string e.text

-- the attributes' expressions under their full names, and the members behind them
abbrev pub with_attributes : List (List ℕ × Expression) → Members → Members
with_attributes [] behind = behind
with_attributes (row ∷ rows) behind =
    member (codes "attribute." ++ row.0) (expression_data row.1) (with_attributes rows behind)

-- the members of a mapping's object
abbrev pub mapping_members : Mapping → Members
mapping_members mapping =
    with_attributes mapping.attributes (
    optional (codes "google.groups") (option_map expression_data mapping.groups) (
    member (codes "google.subject") (expression_data mapping.subject) no_members))

-- a mapping
unfoldable pub mapping_data : Mapping → Data
mapping_data mapping = object (mapping_members mapping)

-- a key in base64url without padding (RFC 4648, section 5)
abbrev pub key_text : List ℕ → List ℕ
key_text key = encode_of url_safe_no_pad key

-- the command that puts a provider
unfoldable pub provider_data : ProviderView → Data
provider_data provider = object (
    member (codes "audiences") (texts_data provider.audiences) (
    optional (codes "condition") (option_map expression_data provider.condition) (
    member (codes "disabled") (boolean provider.disabled) (
    member (codes "issuer") (string provider.issuer) (
    member (codes "key") (string (key_text provider.key)) (
    member (codes "kind") (string (codes "provider")) (
    member (codes "mapping") (mapping_data provider.mapping) (
    member (codes "pool") (string provider.name.pool.pool) (
    member (codes "project") (string provider.name.pool.project) (
    member (codes "provider") (string provider.name.provider) no_members))))))))))

-- ---- a policy

-- a member of a binding
abbrev pub member_data : Member → Data
member_data m = string (member_text m)

-- a binding
unfoldable pub binding_data : Binding → Data
binding_data binding = object (
    optional (codes "condition") (option_map condition_data binding.condition) (
    member (codes "members") (array (items member_data binding.members)) (
    member (codes "role") (string binding.role) no_members)))

-- the command that puts a policy
unfoldable pub policy_data : List ℕ → List Binding → Data
policy_data resource bindings = object (
    member (codes "bindings") (array (items binding_data bindings)) (
    member (codes "kind") (string (codes "policy")) (
    member (codes "resource") (string resource) no_members)))

-- ---- the other kinds

-- the command that puts a pool
unfoldable pub pool_data : PoolName → Bool → Data
pool_data pool disabled = object (
    member (codes "disabled") (boolean disabled) (
    member (codes "kind") (string (codes "pool")) (
    member (codes "pool") (string pool.pool) (
    member (codes "project") (string pool.project) no_members))))

-- the command that puts a service account
unfoldable pub account_data : List ℕ → Bool → Data
account_data account disabled = object (
    member (codes "disabled") (boolean disabled) (
    member (codes "email") (string account) (
    member (codes "kind") (string (codes "account")) no_members)))

-- the command that puts a role
unfoldable pub role_data : List ℕ → List (List ℕ) → Data
role_data role permissions = object (
    member (codes "kind") (string (codes "role")) (
    member (codes "permissions") (texts_data permissions) (
    member (codes "role") (string role) no_members)))

-- the text * for all permissions, or an array of them
abbrev pub scope_set_data : ScopeSet → Data
scope_set_data All = string (codes "*")
scope_set_data (Only permissions) = texts_data permissions

-- the command that puts a scope word
unfoldable pub scope_data : List ℕ → ScopeSet → Data
scope_data word permissions = object (
    member (codes "kind") (string (codes "scope")) (
    member (codes "permissions") (scope_set_data permissions) (
    member (codes "scope") (string word) no_members)))

-- ---- a command

-- a command
unfoldable pub command_data : Command → Data
command_data (Pool pool disabled) = pool_data pool disabled
command_data (Provider provider) = provider_data provider
command_data (Account account disabled) = account_data account disabled
command_data (Role role permissions) = role_data role permissions
command_data (Scope word permissions) = scope_data word permissions
command_data (Policy resource bindings) = policy_data resource bindings
