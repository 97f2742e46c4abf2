-- The texts in the object of an exact command are UTF-8.
use Rattle.std.proofs.Common.{◌≡◌, ℕ, Bool, true, List, [], ◌∷◌, map, Option, None, Some, option_map, IfSome, refl, codes}
use Rattle.std.specs.List.{AllByRecursion, list_all}
use Rattle.std.specs.Str.{IsUtf8}
use Rattle.std.proofs.lemmas.Bool.{and_parts}
use Rattle.std.proofs.lemmas.Str.{IsUtf8-append, IsUtf8-from_ascii}
use Rattle.base64.specs.Engines.{url_safe_no_pad}
use Rattle.base64.proofs.EngineFacts.{IsAscii-encode_of}
use Rattle.json.proofs.Printed.Utf8.{IsUtf8-are_ascii}
use Rattle.serde_json.specs.Data.{Members, string, array, no_members, member}
use Rattle.serde_json.specs.View.{items_of}
use Rattle.iam_names.specs.Forms.{is_project, is_id, is_permission, is_account, is_role, is_scope_word, is_resource, is_attribute_name}
use Rattle.iam_names.specs.PoolName.{is_pool_name}
use Rattle.iam_names.specs.declared.pool_name.PoolName.{PoolName}
use Rattle.json_text.specs.Clean.{HasUtf8, ItemsHaveUtf8, MembersHaveUtf8}
use Rattle.cel_types.specs.Rules.{Decls}
use Rattle.cel_types.specs.declared.cel_type.CelType.{CelType}
use Rattle.cel_expression.specs.declared.expression.Expression.{Expression}
use Rattle.pools.specs.Environments.{mapping_names}
use Rattle.pools.specs.Providers.{ProviderView}
use Rattle.pools.specs.declared.mapping.Mapping.{Mapping}
use Rattle.allow_policy.specs.declared.binding.Binding.{Binding}
use Rattle.allow_policy.specs.declared.scope_set.ScopeSet.{ScopeSet}
use Rattle.allow_policy.specs.declared.scope_set.ScopeSet.TheVariants.{All, List as Only}
use Rattle.boundary.specs.Written.{items, condition_data}
use Rattle.boundary.proofs.WrittenParts.{optional_utf8, items_utf8}
use Rattle.service_view.specs.declared.command.Command.{Command}
use Rattle.service_view.specs.declared.command.Command.TheVariants.{Pool, Provider, Account, Role, Scope, Policy}
use Rattle.command_texts.specs.Exact.{IsSaidUnder, IsExactMapping, IsExactProvider, IsExactMember, IsExactBinding, AreExactBindings, ArePermissions, IsExactScopeSet, IsExactCommand}
use Rattle.command_texts.specs.Written.{expression_data, with_attributes, mapping_data, key_text, provider_data, member_data, binding_data, policy_data, pool_data, account_data, role_data, scope_set_data, scope_data, command_data}
use Rattle.command_texts.proofs.MappingMembers.{Rows, fixed}
use Rattle.command_texts.proofs.ReadParts.{each_passes}
use Rattle.command_texts.proofs.NamesInAscii.{project_utf8, id_utf8, word_utf8, attribute_utf8, account_utf8, permission_utf8, role_utf8, resource_utf8}

texts_utf8 : {P : List ℕ → Type 0} → ((text : List ℕ) → P text → IsUtf8 text) → (texts : List (List ℕ)) → AllByRecursion P texts → ItemsHaveUtf8 (items_of (map string texts))
texts_utf8 is [] all = tt
texts_utf8 is (text ∷ texts) all = (is text all.0, texts_utf8 is texts all.1)

said_utf8 : (names : Decls) (wanted : CelType) (o : Option Expression) → IfSome o (IsSaidUnder names wanted) → IfSome (option_map expression_data o) HasUtf8
said_utf8 names wanted None said = tt
said_utf8 names wanted (Some e) said = said.utf8

-- ---- providers

fixed_utf8 : (mapping : Mapping) → IsExactMapping mapping → MembersHaveUtf8 (fixed mapping)
fixed_utf8 mapping is =
    optional_utf8 (codes "google.groups") (option_map expression_data mapping.groups) (member (codes "google.subject") (expression_data mapping.subject) no_members)
    (IsUtf8-are_ascii (codes "google.groups") refl) (said_utf8 _ _ mapping.groups is.groups)
    (IsUtf8-are_ascii (codes "google.subject") refl, is.subject.utf8, tt)

rows_utf8 : (rows : Rows) (behind : Members) → list_all (λ row. is_attribute_name row.0) rows ≡ true
    → AllByRecursion (λ row. IsSaidUnder mapping_names CelType.Text row.1) rows → MembersHaveUtf8 behind → MembersHaveUtf8 (with_attributes rows behind)
rows_utf8 [] behind names said rest = rest
rows_utf8 (row ∷ rows) behind names said rest =
    let parts = and_parts (is_attribute_name row.0) (list_all (λ r. is_attribute_name r.0) rows) names in (
      IsUtf8-append (codes "attribute.") row.0 (IsUtf8-are_ascii (codes "attribute.") refl) (attribute_utf8 row.0 parts.0),
      said.0.utf8,
      rows_utf8 rows behind parts.1 said.1 rest,
    )

mapping_utf8 : (mapping : Mapping) → IsExactMapping mapping → list_all (λ row. is_attribute_name row.0) mapping.attributes ≡ true → HasUtf8 (mapping_data mapping)
unfolding mapping_data
mapping_utf8 mapping is names = rows_utf8 mapping.attributes (fixed mapping) names is.attributes (fixed_utf8 mapping is)

provider_utf8 : (provider : ProviderView) → IsExactProvider provider → HasUtf8 (provider_data provider)
unfolding provider_data
provider_utf8 provider is =
    let named = and_parts (is_pool_name provider.name.pool) (is_id provider.name.provider) is.formed.name in
    let pooled = and_parts (is_project provider.name.pool.project) (is_id provider.name.pool.pool) named.0 in
    let condition = option_map expression_data provider.condition in
    let names : MembersHaveUtf8 (member (codes "pool") (string provider.name.pool.pool) (member (codes "project") (string provider.name.pool.project) (member (codes "provider") (string provider.name.provider) no_members))) = (
      IsUtf8-are_ascii (codes "pool") refl,
      id_utf8 provider.name.pool.pool pooled.1,
      (IsUtf8-are_ascii (codes "project") refl, project_utf8 provider.name.pool.project pooled.0, (IsUtf8-are_ascii (codes "provider") refl, id_utf8 provider.name.provider named.1, tt)),
    ) in
    let key : IsUtf8 (key_text provider.key) = IsUtf8-from_ascii (key_text provider.key) (IsAscii-encode_of url_safe_no_pad provider.key) in (
      IsUtf8-are_ascii (codes "audiences") refl,
      texts_utf8 (λ text short. short.utf8) provider.audiences is.audiences,
      optional_utf8 (codes "condition") condition _ (IsUtf8-are_ascii (codes "condition") refl) (said_utf8 _ _ provider.condition is.condition) (
        IsUtf8-are_ascii (codes "disabled") refl,
        tt,
        (
          IsUtf8-are_ascii (codes "issuer") refl,
          is.issuer.utf8,
          (
            IsUtf8-are_ascii (codes "key") refl,
            key,
            (
              IsUtf8-are_ascii (codes "kind") refl,
              IsUtf8-are_ascii (codes "provider") refl,
              (IsUtf8-are_ascii (codes "mapping") refl, mapping_utf8 provider.mapping is.mapping is.formed.attributes, names),
            ),
          ),
        ),
      ),
    )

-- ---- policies

condition_utf8 : (names : Decls) (wanted : CelType) (o : Option Expression) → IfSome o (IsSaidUnder names wanted) → IfSome (option_map condition_data o) HasUtf8
condition_utf8 names wanted None said = tt
condition_utf8 names wanted (Some e) said = (IsUtf8-are_ascii (codes "expression") refl, said.utf8, tt)

binding_utf8 : (binding : Binding) → IsExactBinding binding → HasUtf8 (binding_data binding)
unfolding binding_data
binding_utf8 binding is =
    optional_utf8 (codes "condition") (option_map condition_data binding.condition)
    (member (codes "members") (array (items member_data binding.members)) (member (codes "role") (string binding.role) no_members))
    (IsUtf8-are_ascii (codes "condition") refl)
    (condition_utf8 _ _ binding.condition is.condition) (
      IsUtf8-are_ascii (codes "members") refl,
      items_utf8 member_data IsExactMember (λ m exact. exact.utf8) binding.members is.members,
      (IsUtf8-are_ascii (codes "role") refl, role_utf8 binding.role is.role, tt),
    )

policy_utf8 : (resource : List ℕ) (bindings : List Binding) → is_resource resource ≡ true → AreExactBindings bindings → HasUtf8 (policy_data resource bindings)
unfolding policy_data
policy_utf8 resource bindings is are = (
  IsUtf8-are_ascii (codes "bindings") refl,
  items_utf8 binding_data IsExactBinding binding_utf8 bindings are.each,
  (
    IsUtf8-are_ascii (codes "kind") refl,
    IsUtf8-are_ascii (codes "policy") refl,
    (IsUtf8-are_ascii (codes "resource") refl, resource_utf8 resource is, tt),
  ),
)

-- ---- the other kinds

pool_utf8 : (pool : PoolName) (disabled : Bool) → is_pool_name pool ≡ true → HasUtf8 (pool_data pool disabled)
unfolding pool_data
pool_utf8 pool disabled is =
    let parts = and_parts (is_project pool.project) (is_id pool.pool) is in (
      IsUtf8-are_ascii (codes "disabled") refl,
      tt,
      (
        IsUtf8-are_ascii (codes "kind") refl,
        IsUtf8-are_ascii (codes "pool") refl,
        (
          IsUtf8-are_ascii (codes "pool") refl,
          id_utf8 pool.pool parts.1,
          (IsUtf8-are_ascii (codes "project") refl, project_utf8 pool.project parts.0, tt),
        ),
      ),
    )

account_utf8_of : (account : List ℕ) (disabled : Bool) → is_account account ≡ true → HasUtf8 (account_data account disabled)
unfolding account_data
account_utf8_of account disabled is = (
  IsUtf8-are_ascii (codes "disabled") refl,
  tt,
  (
    IsUtf8-are_ascii (codes "email") refl,
    account_utf8 account is,
    (IsUtf8-are_ascii (codes "kind") refl, IsUtf8-are_ascii (codes "account") refl, tt),
  ),
)

permissions_utf8 : (permissions : List (List ℕ)) → ArePermissions permissions → ItemsHaveUtf8 (items_of (map string permissions))
permissions_utf8 permissions are = texts_utf8 permission_utf8 permissions (each_passes is_permission permissions are.form)

role_utf8_of : (role : List ℕ) (permissions : List (List ℕ)) → is_role role ≡ true → ArePermissions permissions → HasUtf8 (role_data role permissions)
unfolding role_data
role_utf8_of role permissions is are = (
  IsUtf8-are_ascii (codes "kind") refl,
  IsUtf8-are_ascii (codes "role") refl,
  (
    IsUtf8-are_ascii (codes "permissions") refl,
    permissions_utf8 permissions are,
    (IsUtf8-are_ascii (codes "role") refl, role_utf8 role is, tt),
  ),
)

set_utf8 : (set : ScopeSet) → IsExactScopeSet set → HasUtf8 (scope_set_data set)
set_utf8 All is = IsUtf8-are_ascii (codes "*") refl
set_utf8 (Only permissions) is = permissions_utf8 permissions is

scope_utf8 : (word : List ℕ) (set : ScopeSet) → is_scope_word word ≡ true → IsExactScopeSet set → HasUtf8 (scope_data word set)
unfolding scope_data
scope_utf8 word set is exact = (
  IsUtf8-are_ascii (codes "kind") refl,
  IsUtf8-are_ascii (codes "scope") refl,
  (
    IsUtf8-are_ascii (codes "permissions") refl,
    set_utf8 set exact,
    (IsUtf8-are_ascii (codes "scope") refl, word_utf8 word is, tt),
  ),
)

pub command_utf8 : (command : Command) → IsExactCommand command → HasUtf8 (command_data command)
unfolding command_data
command_utf8 (Pool pool disabled) is = pool_utf8 pool disabled is
command_utf8 (Provider provider) is = provider_utf8 provider is
command_utf8 (Account account disabled) is = account_utf8_of account disabled is
command_utf8 (Role role permissions) is = role_utf8_of role permissions is.0 is.1
command_utf8 (Scope word permissions) is = scope_utf8 word permissions is.0 is.1
command_utf8 (Policy resource bindings) is = policy_utf8 resource bindings is.0 is.1
