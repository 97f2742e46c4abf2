-- Commands that their texts give back whole: each name is of its form, each count within its limit, each text
-- UTF-8, and each expression is the one that its text says.
use Rattle.std.specs.Prelude.{◌≡◌, ◌≤◌, ◌+◌, ⊤, ℕ, suc, true, List, length, IfSome, Option, None, Some}
use Rattle.std.specs.List.{AllByRecursion, list_all}
use Rattle.std.specs.Str.{IsUtf8}
use Rattle.base_types.specs.Forms.{has_size}
use Rattle.iam_names.specs.Forms.{is_account, is_permission, is_resource, is_role, is_scope_word}
use Rattle.iam_names.specs.Member.{is_member, member_text}
use Rattle.iam_names.specs.PoolName.{is_pool_name}
use Rattle.iam_names.specs.declared.member.Member.{Member}
use Rattle.cel_types.specs.Rules.{Decls}
use Rattle.cel_types.specs.declared.cel_type.CelType.{CelType}
use Rattle.cel_expression.specs.declared.expression.Expression.{Expression}
use Rattle.cel_reader.specs.Expressions.{expression_of}
use Rattle.pools.specs.Environments.{mapping_names, condition_names as claim_names}
use Rattle.pools.specs.Providers.{ProviderView, IsFormed}
use Rattle.pools.specs.declared.mapping.Mapping.{Mapping}
use Rattle.allow_policy.specs.Conditions.{condition_names as resource_names}
use Rattle.allow_policy.specs.declared.binding.Binding.{Binding}
use Rattle.allow_policy.specs.declared.scope_set.ScopeSet.{ScopeSet}
use Rattle.allow_policy.specs.declared.scope_set.ScopeSet.TheVariants.{All, List as Only}
use Rattle.service_config.specs.Configuration.{key_of}
use Rattle.service_view.specs.declared.command.Command.{Command}
use Rattle.service_view.specs.declared.command.Command.TheVariants.{Pool, Provider, Account, Role, Scope, Policy}
use Rattle.sts_admin.specs.Mappings.{text_list}
use Rattle.command_texts.specs.Written.{key_text}

-- the expression of that type under these names that its text says
pub record IsSaidUnder (names : Decls) (wanted : CelType) (e : Expression) : Type 0 where
  pub utf8 : IsUtf8 e.text
  pub read : expression_of names wanted e.text ≡ Some e

-- ---- a provider

-- UTF-8 of 1 to 256 bytes
pub record IsShortText (text : List ℕ) : Type 0 where
  pub utf8 : IsUtf8 text
  pub size : has_size 1 256 text ≡ true

-- the key that its text says, of 32 to 128 bytes
abbrev pub IsExactKey : List ℕ → Type 0
IsExactKey key = key_of (key_text key) ≡ Some key

-- how many there are
abbrev pub count_of : Option Expression → ℕ
count_of None = 0
count_of (Some e) = 1

-- how many expressions a mapping has
abbrev pub expression_count : Mapping → ℕ
expression_count mapping = length mapping.attributes + suc (count_of mapping.groups)

-- at most 50 expressions, each as its text says it
pub record IsExactMapping (mapping : Mapping) : Type 0 where
  pub few : expression_count mapping ≤ 50
  pub subject : IsSaidUnder mapping_names CelType.Text mapping.subject
  pub groups : IfSome mapping.groups (IsSaidUnder mapping_names text_list)
  pub attributes : AllByRecursion (λ row. IsSaidUnder mapping_names CelType.Text row.1) mapping.attributes

-- its parts are of their forms and counts
pub record IsExactProvider (provider : ProviderView) : Type 0 where
  pub formed : IsFormed provider
  pub issuer : IsShortText provider.issuer
  pub key : IsExactKey provider.key
  pub few : length provider.audiences ≤ 10
  pub audiences : AllByRecursion IsShortText provider.audiences
  pub mapping : IsExactMapping provider.mapping
  pub condition : IfSome provider.condition (IsSaidUnder claim_names CelType.Bool)

-- ---- a policy

-- a member of its form, in UTF-8
pub record IsExactMember (m : Member) : Type 0 where
  pub form : is_member m ≡ true
  pub utf8 : IsUtf8 (member_text m)

-- a role, at most 64 members, and a condition as its text says it, where there is one
pub record IsExactBinding (binding : Binding) : Type 0 where
  pub role : is_role binding.role ≡ true
  pub few : length binding.members ≤ 64
  pub members : AllByRecursion IsExactMember binding.members
  pub condition : IfSome binding.condition (IsSaidUnder resource_names CelType.Bool)

-- at most 64 bindings
pub record AreExactBindings (bindings : List Binding) : Type 0 where
  pub few : length bindings ≤ 64
  pub each : AllByRecursion IsExactBinding bindings

-- ---- a command

-- at most 256 permissions
pub record ArePermissions (permissions : List (List ℕ)) : Type 0 where
  pub few : length permissions ≤ 256
  pub form : list_all is_permission permissions ≡ true

-- all permissions, or at most 256
abbrev pub IsExactScopeSet : ScopeSet → Type 0
IsExactScopeSet All = ⊤
IsExactScopeSet (Only permissions) = ArePermissions permissions

-- each part is of its form
abbrev pub IsExactCommand : Command → Type 0
IsExactCommand (Pool pool disabled) = is_pool_name pool ≡ true
IsExactCommand (Provider provider) = IsExactProvider provider
IsExactCommand (Account account disabled) = is_account account ≡ true
IsExactCommand (Role role permissions) = (is_role role ≡ true) × ArePermissions permissions
IsExactCommand (Scope word permissions) = (is_scope_word word ≡ true) × IsExactScopeSet permissions
IsExactCommand (Policy resource bindings) = (is_resource resource ≡ true) × AreExactBindings bindings
