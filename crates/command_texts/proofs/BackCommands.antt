-- An exact command, written, reads back as itself.
use Rattle.std.proofs.Common.{◌≡◌, ℕ, Bool, true, List, Option, None, Some, option_map, option_and_then, Ok, refl, sym, ap, ◌∙◌}
use Rattle.std.proofs.lemmas.Bool.{and_parts}
use Rattle.serde_json.specs.Data.{string, array}
use Rattle.base_types.specs.Steps.{◌>>=◌, needed}
use Rattle.iam_names.specs.Forms.{is_project, is_id, is_permission, is_account, is_role, is_scope_word, is_resource}
use Rattle.iam_names.specs.PoolName.{is_pool_name}
use Rattle.iam_names.specs.declared.member.Member.{Member}
use Rattle.iam_names.specs.declared.pool_name.PoolName.{PoolName}
use Rattle.iam_names.proofs.ReadBackLemmas.{member_of-member_text}
use Rattle.json_text.specs.Arrays.{short_list}
use Rattle.json_text.specs.Document.{texts_data}
use Rattle.cel_expression.specs.declared.expression.Expression.{Expression}
use Rattle.allow_policy.specs.declared.binding.Binding.{Binding}
use Rattle.allow_policy.specs.declared.scope_set.ScopeSet.{ScopeSet}
use Rattle.allow_policy.specs.declared.scope_set.ScopeSet.TheVariants.{All, List as Only}
use Rattle.boundary.specs.Written.{items}
use Rattle.service_view.specs.declared.command.Command.{Command}
use Rattle.service_view.specs.declared.command.Command.TheVariants.{Pool, Provider, Account, Role, Scope, Policy}
use Rattle.sts_admin.specs.Bindings.{binding_member, written_binding, binding_of, binding_in, bindings_of}
use Rattle.sts_admin.specs.Commands.{pool_command, account_command, role_command, scope_command, policy_command, command_of}
use Rattle.sts_admin.specs.Members.{permission_of, scope_set_of}
use Rattle.sts_admin.specs.declared.command.CommandFault.{CommandFault}
use Rattle.sts_admin.specs.declared.command.CommandFault.TheVariants.{Field, Expression as Unread}
use Rattle.sts_admin.specs.declared.command.CommandMember.{CommandMember}
use Rattle.sts_admin.proofs.ListedBindings.{short_bindings}
use Rattle.command_texts.specs.Exact.{IsExactMember, IsExactBinding, AreExactBindings, ArePermissions, IsExactScopeSet, IsExactCommand}
use Rattle.command_texts.specs.Written.{member_data, binding_data, policy_data, pool_data, account_data, role_data, scope_set_data, scope_data, command_data}
use Rattle.command_texts.proofs.BackParts.{short_back, short_texts_back}
use Rattle.command_texts.proofs.BackProviders.{provider_back}
use Rattle.command_texts.proofs.ReadParts.{each_passes}

-- ---- pools and accounts

pool_back : (pool : PoolName) (disabled : Bool) → is_pool_name pool ≡ true → command_of (pool_data pool disabled) ≡ Ok (Pool pool disabled)
unfolding pool_command pool_data
pool_back pool disabled is = let parts = and_parts (is_project pool.project) (is_id pool.pool) is in rw (parts.0, parts.1) refl

account_back : (account : List ℕ) (disabled : Bool) → is_account account ≡ true → command_of (account_data account disabled) ≡ Ok (Account account disabled)
unfolding account_command account_data
account_back account disabled is = rw is refl

-- ---- roles and scope words

permission_back : (text : List ℕ) → is_permission text ≡ true → permission_of (string text) ≡ Some text
permission_back text is = rw is refl

permissions_back : (permissions : List (List ℕ)) → ArePermissions permissions → short_list permission_of 256 (texts_data permissions) ≡ Some permissions
permissions_back permissions are =
    short_texts_back permission_of (λ text. is_permission text ≡ true) permission_back 256 permissions are.few (each_passes is_permission permissions are.form)

role_back : (role : List ℕ) (permissions : List (List ℕ)) → is_role role ≡ true → ArePermissions permissions → command_of (role_data role permissions) ≡ Ok (Role role permissions)
unfolding role_command role_data
role_back role permissions is are = rw (is, permissions_back permissions are) refl

set_back : (set : ScopeSet) → IsExactScopeSet set → scope_set_of (scope_set_data set) ≡ Some set
set_back All is = refl
set_back (Only permissions) is = ap (option_map Only) (permissions_back permissions is)

scope_back : (word : List ℕ) (set : ScopeSet) → is_scope_word word ≡ true → IsExactScopeSet set → command_of (scope_data word set) ≡ Ok (Scope word set)
unfolding scope_command scope_data
scope_back word set is exact = rw (is, set_back set exact) refl

-- ---- policies

member_back : (m : Member) → IsExactMember m → binding_member (member_data m) ≡ Some m
unfolding binding_member
member_back m is = member_of-member_text m is.form

abbrev binding : List ℕ → List Member → Option Expression → Binding
binding role members condition = record { role = role; members = members; condition = condition }

parts_back : (role : List ℕ) (members : List Member) (condition : Option Expression) → IsExactBinding (binding role members condition)
    → binding_in (binding_data (binding role members condition)) ≡ Some (binding role members condition)
unfolding binding_data written_binding binding_of
parts_back role members None is = rw (is.role, short_back member_data binding_member IsExactMember member_back 64 members is.few is.members) refl
parts_back role members (Some e) is = rw (is.role, short_back member_data binding_member IsExactMember member_back 64 members is.few is.members, is.condition.read) refl

binding_back : (given : Binding) → IsExactBinding given → binding_in (binding_data given) ≡ Some given
binding_back given is = parts_back given.role given.members given.condition is

then_needed : {A B : Type 0} (fault other : CommandFault) (f : A → Option B) (o : Option A) (x : B) → option_and_then f o ≡ Some x
    → (needed fault o >>= (λ a. needed other (f a))) ≡ Ok x
then_needed fault other f None x h = cc
then_needed fault other f (Some a) x h = rw h refl

bindings_back : (bindings : List Binding) → AreExactBindings bindings → option_and_then bindings_of (short_list written_binding 64 (array (items binding_data bindings))) ≡ Some bindings
bindings_back bindings are =
    sym (short_bindings (array (items binding_data bindings))) ∙ short_back binding_data binding_in IsExactBinding binding_back 64 bindings are.few are.each

policy_back : (resource : List ℕ) (bindings : List Binding) → is_resource resource ≡ true → AreExactBindings bindings → command_of (policy_data resource bindings) ≡ Ok (Policy resource bindings)
unfolding policy_command policy_data
policy_back resource bindings is are =
    rw (is, then_needed (Field CommandMember.Bindings) (Unread CommandMember.Bindings) bindings_of (short_list written_binding 64 (array (items binding_data bindings))) bindings (bindings_back bindings are)) refl

-- ---- a command

pub command_back : (command : Command) → IsExactCommand command → command_of (command_data command) ≡ Ok command
unfolding command_data
command_back (Pool pool disabled) is = pool_back pool disabled is
command_back (Provider provider) is = provider_back provider is
command_back (Account account disabled) is = account_back account disabled is
command_back (Role role permissions) is = role_back role permissions is.0 is.1
command_back (Scope word permissions) is = scope_back word permissions is.0 is.1
command_back (Policy resource bindings) is = policy_back resource bindings is.0 is.1
