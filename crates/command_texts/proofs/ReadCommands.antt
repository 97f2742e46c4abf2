-- A command that is read from an object in UTF-8 is exact.
use Rattle.std.proofs.Common.{◌≡◌, ℕ, Bool, true, false, ◌&&◌, cond, List, Option, None, Some, option_map, option_and_then, IfSome, Result, Ok, sym, ap, ◌∙◌, subst, codes}
use Rattle.std.specs.Prelude.{if◌then◌else◌}
use Rattle.std.specs.Option.{option_map_or}
use Rattle.std.specs.Str.{IsUtf8, bytes_eq}
use Rattle.std.proofs.lemmas.Option.{same_Some, cond_some, option_and_then_some}
use Rattle.serde_json.specs.Data.{Data}
use Rattle.serde_json.specs.Find.{get, as_str}
use Rattle.base_types.specs.Forms.{has_size, passing}
use Rattle.base_types.specs.Steps.{needed}
use Rattle.iam_names.specs.Cuts.{after, cut_at}
use Rattle.iam_names.specs.Forms.{is_project, is_id, is_account, is_role, is_permission, is_scope_word, is_resource, is_attribute_name}
use Rattle.iam_names.specs.Member.{member_of, is_member, principal_of, set_of, set_in, attribute_of}
use Rattle.iam_names.specs.Parts.{path_parts, subject_at}
use Rattle.iam_names.specs.PoolName.{pool_of, is_pool_name}
use Rattle.iam_names.specs.declared.pool_name.PoolName.{PoolName}
use Rattle.iam_names.specs.declared.member.Member.{Member}
use Rattle.iam_names.specs.declared.member.Member.TheVariants.{Principal, Group, Attribute, Pool, Account}
use Rattle.iam_names.proofs.PrintedLemmas as printed
use Rattle.json_text.specs.Arrays.{short_list}
use Rattle.json_text.specs.Clean.{HasUtf8}
use Rattle.json_text.specs.Document.{text_at}
use Rattle.json_text.specs.Members.{name_at}
use Rattle.cel_types.specs.declared.cel_type.CelType.{CelType}
use Rattle.cel_expression.specs.declared.expression.Expression.{Expression}
use Rattle.allow_policy.specs.Conditions.{condition_names as resource_names}
use Rattle.allow_policy.specs.declared.binding.Binding.{Binding}
use Rattle.allow_policy.specs.declared.scope_set.ScopeSet.{ScopeSet}
use Rattle.allow_policy.specs.declared.scope_set.ScopeSet.TheVariants.{All, List as Only}
use Rattle.boundary.proofs.Options.{then-passing, option_map_some, bound, needed-is}
use Rattle.service_view.specs.Commands.{IsCommand}
use Rattle.service_view.specs.declared.command.Command.{Command}
use Rattle.sts_admin.specs.Bindings.{binding_member, members_at, members_of, condition_text, written_binding, written_at, condition_by, binding_of, binding_in, bindings_of}
use Rattle.sts_admin.specs.Commands.{pool_command, account_command, role_command, scope_command, bindings_at, policy_command, command_of_kind, command_under, command_of}
use Rattle.sts_admin.specs.Members.{disabled_at, permission_of, permissions_of, permissions_at, is_star, scope_set_of, scope_set_at}
use Rattle.sts_admin.specs.declared.command.CommandFault.{CommandFault}
use Rattle.sts_admin.specs.declared.command.CommandFault.TheVariants.{Field}
use Rattle.sts_admin.specs.declared.command.CommandMember.{CommandMember}
use Rattle.sts_admin.proofs.FormedCommands.{command_formed}
use Rattle.sts_admin.proofs.ListedBindings.{short_bindings}
use Rattle.command_texts.specs.Exact.{IsSaidUnder, IsExactMember, IsExactBinding, AreExactBindings, ArePermissions, IsExactScopeSet, IsExactCommand}
use Rattle.command_texts.proofs.ReadParts.{joined, all_pass, if_there, get_utf8, str_utf8, text_utf8, AreFew, short_all, said_there}
use Rattle.command_texts.proofs.ReadProviders.{provider_exact}

named : (test : List ℕ → Bool) (fault : CommandFault) (name : List ℕ) (d : Data) (text : List ℕ) → needed fault (name_at test name d) ≡ Ok text → test text ≡ true
named test fault name d text h = (then-passing test (text_at name d) text (needed-is fault (name_at test name d) text h)).1

-- ---- pools and accounts

pool_exact : (d : Data) (command : Command) → pool_command d ≡ Ok command → IsExactCommand command
unfolding pool_command
pool_exact d command h =
    bound _ (needed (Field CommandMember.Project) (name_at is_project (codes "project") d)) command h (λ project project_is h.
    bound _ (needed (Field CommandMember.Pool) (name_at is_id (codes "pool") d)) command h (λ pool pool_is h.
    bound _ (needed (Field CommandMember.Disabled) (disabled_at d)) command h (λ disabled disabled_is h.
    let same : Command.Pool (record { project = project; pool = pool }) disabled ≡ command = cc in
    subst IsExactCommand same (joined (is_project project) (is_id pool) (named is_project _ (codes "project") d project project_is) (named is_id _ (codes "pool") d pool pool_is)))))

account_exact : (d : Data) (command : Command) → account_command d ≡ Ok command → IsExactCommand command
unfolding account_command
account_exact d command h =
    bound _ (needed (Field CommandMember.Email) (name_at is_account (codes "email") d)) command h (λ account account_is h.
    bound _ (needed (Field CommandMember.Disabled) (disabled_at d)) command h (λ disabled disabled_is h.
    let same : Command.Account account disabled ≡ command = cc in
    subst IsExactCommand same (named is_account _ (codes "email") d account account_is)))

-- ---- roles and scope words

permission_exact : (d : Data) (text : List ℕ) → HasUtf8 d → permission_of d ≡ Some text → is_permission text ≡ true
permission_exact d text utf8 h = (then-passing is_permission (as_str d) text h).1

permissions_exact : (d : Data) (permissions : List (List ℕ)) → HasUtf8 d → permissions_of d ≡ Some permissions → ArePermissions permissions
permissions_exact d permissions utf8 h =
    let are = short_all permission_of (λ text. is_permission text ≡ true) permission_exact 256 d permissions utf8 h in
    record { few = are.few; form = all_pass is_permission permissions are.each }

there_exact : (o : Option Data) (permissions : List (List ℕ)) → IfSome o HasUtf8 → option_and_then permissions_of o ≡ Some permissions → ArePermissions permissions
there_exact None permissions utf8 h = cc
there_exact (Some d) permissions utf8 h = permissions_exact d permissions utf8 h

role_exact : (d : Data) (command : Command) → HasUtf8 d → role_command d ≡ Ok command → IsExactCommand command
unfolding role_command
role_exact d command utf8 h =
    bound _ (needed (Field CommandMember.Role) (name_at is_role (codes "role") d)) command h (λ role role_is h.
    bound _ (needed (Field CommandMember.Permissions) (permissions_at d)) command h (λ permissions permissions_are h.
    let same : Command.Role role permissions ≡ command = cc in
    subst IsExactCommand same (
      named is_role _ (codes "role") d role role_is,
      there_exact (get (codes "permissions") d) permissions (get_utf8 (codes "permissions") d utf8) (needed-is _ _ permissions permissions_are),
    )))

set_by : (star : Bool) (d : Data) (set : ScopeSet) → HasUtf8 d → (if star then Some All else option_map Only (permissions_of d)) ≡ Some set → IsExactScopeSet set
set_by true d set utf8 h = subst IsExactScopeSet (same_Some All set h) tt
set_by false d set utf8 h =
    option_map_some Only (permissions_of d) set h (λ permissions there whole. subst IsExactScopeSet whole (permissions_exact d permissions utf8 there))

set_exact : (o : Option Data) (set : ScopeSet) → IfSome o HasUtf8 → option_and_then scope_set_of o ≡ Some set → IsExactScopeSet set
set_exact None set utf8 h = cc
set_exact (Some d) set utf8 h = set_by (is_star d) d set utf8 h

scope_exact : (d : Data) (command : Command) → HasUtf8 d → scope_command d ≡ Ok command → IsExactCommand command
unfolding scope_command
scope_exact d command utf8 h =
    bound _ (needed (Field CommandMember.Scope) (name_at is_scope_word (codes "scope") d)) command h (λ word word_is h.
    bound _ (needed (Field CommandMember.Permissions) (scope_set_at d)) command h (λ set set_is h.
    let same : Command.Scope word set ≡ command = cc in
    subst IsExactCommand same (
      named is_scope_word _ (codes "scope") d word word_is,
      set_exact (get (codes "permissions") d) set (get_utf8 (codes "permissions") d utf8) (needed-is _ _ set set_is),
    )))

-- ---- members of bindings

pool_of-is : (project pool : List ℕ) (name : PoolName) → pool_of project pool ≡ Some name → is_pool_name name ≡ true
pool_of-is project pool name h =
    let parts = cond_some (is_project project && is_id pool) (record { project = project; pool = pool }) name h in
    ap is_pool_name (sym parts.1) ∙ parts.0

principal_is : (text : List ℕ) (m : Member) → principal_of text ≡ Some m → is_member m ≡ true
principal_is text m h =
    let path = printed.bound (path_parts text) _ m h in
    let pool = printed.bound (pool_of path.0.0 path.0.1) _ m path.2 in
    let subject = printed.bound (subject_at path.0.2) (λ found. Some (Principal pool.0 found)) m pool.2 in
    let behind = printed.bound (after (codes "subject/") path.0.2) (passing (has_size 1 127)) subject.0 subject.1 in
    let sized = cond_some (has_size 1 127 behind.0) behind.0 subject.0 behind.2 in
    ap is_member (sym (same_Some (Principal pool.0 subject.0) m subject.2))
    ∙ joined (is_pool_name pool.0) (has_size 1 127 subject.0) (pool_of-is path.0.0 path.0.1 pool.0 pool.1) (ap (has_size 1 127) (sym sized.1) ∙ sized.0)

attribute_is : (pool : PoolName) (text : List ℕ) (m : Member) → is_pool_name pool ≡ true → attribute_of pool text ≡ Some m → is_member m ≡ true
attribute_is pool text m is h =
    let cut = printed.bound (cut_at 47 text) _ m h in
    let name = printed.bound (passing is_attribute_name cut.0.0) _ m cut.2 in
    let value = printed.bound (passing (has_size 1 256) cut.0.1) (λ found. Some (Attribute pool name.0 found)) m name.2 in
    let formed = cond_some (is_attribute_name cut.0.0) cut.0.0 name.0 name.1 in
    let sized = cond_some (has_size 1 256 cut.0.1) cut.0.1 value.0 value.1 in
    ap is_member (sym (same_Some (Attribute pool name.0 value.0) m value.2))
    ∙ joined (is_pool_name pool) (is_attribute_name name.0 && has_size 1 256 value.0) is
    (joined (is_attribute_name name.0) (has_size 1 256 value.0) (ap is_attribute_name (sym formed.1) ∙ formed.0) (ap (has_size 1 256) (sym sized.1) ∙ sized.0))

whole_is : (star : Bool) (pool : PoolName) (m : Member) → is_pool_name pool ≡ true → cond star (Some (Pool pool)) None ≡ Some m → is_member m ≡ true
whole_is star pool m is h = ap is_member (sym (cond_some star (Pool pool) m h).1) ∙ is

group_is : (pool : PoolName) (text : List ℕ) (m : Member) → is_pool_name pool ≡ true → option_map (Group pool) (passing (has_size 1 256) text) ≡ Some m → is_member m ≡ true
group_is pool text m is h =
    option_map_some (Group pool) (passing (has_size 1 256) text) m h (λ group there whole.
    let sized = cond_some (has_size 1 256 text) text group there in
    ap is_member (sym whole) ∙ joined (is_pool_name pool) (has_size 1 256 group) is (ap (has_size 1 256) (sym sized.1) ∙ sized.0))

-- one of two readers
choice : {P : Type 0} (f : List ℕ → Option Member) (o : Option (List ℕ)) (other : Option Member) (m : Member) → option_map_or f o other ≡ Some m
    → ((text : List ℕ) → f text ≡ Some m → P) → (other ≡ Some m → P) → P
choice f None other m h one rest = rest h
choice f (Some text) other m h one rest = one text h

set_is : (pool : PoolName) (text : List ℕ) (m : Member) → is_pool_name pool ≡ true → set_in pool text ≡ Some m → is_member m ≡ true
set_is pool text m is h =
    choice (λ group. option_map (Group pool) (passing (has_size 1 256) group)) (after (codes "group/") text) _ m h (λ group read. group_is pool group m is read) (λ h.
    choice (attribute_of pool) (after (codes "attribute.") text) _ m h (λ rest read. attribute_is pool rest m is read) (λ h.
    whole_is (bytes_eq text (codes "*")) pool m is h))

set_of_is : (text : List ℕ) (m : Member) → set_of text ≡ Some m → is_member m ≡ true
set_of_is text m h =
    let path = printed.bound (path_parts text) _ m h in
    let pool = printed.bound (pool_of path.0.0 path.0.1) (λ found. set_in found path.0.2) m path.2 in
    set_is pool.0 path.0.2 m (pool_of-is path.0.0 path.0.1 pool.0 pool.1) pool.2

account_is : (text : List ℕ) (m : Member) → option_map Account (passing is_account text) ≡ Some m → is_member m ≡ true
account_is text m h =
    option_map_some Account (passing is_account text) m h (λ account there whole.
    let formed = cond_some (is_account text) text account there in
    ap is_member (sym whole) ∙ ap is_account (sym formed.1) ∙ formed.0)

member_is : (text : List ℕ) (m : Member) → member_of text ≡ Some m → is_member m ≡ true
member_is text m h =
    choice principal_of (after (codes "principal://") text) _ m h (λ rest read. principal_is rest m read) (λ h.
    choice set_of (after (codes "principalSet://") text) _ m h (λ rest read. set_of_is rest m read) (λ h.
    choice (λ account. option_map Account (passing is_account account)) (after (codes "serviceAccount:") text) None m h (λ account read. account_is account m read) (λ none. cc)))

member_exact : (d : Data) (m : Member) → HasUtf8 d → binding_member d ≡ Some m → IsExactMember m
unfolding binding_member
member_exact d m utf8 h =
    option_and_then_some member_of (as_str d) m h (λ text there read. record {
      form = member_is text m read;
      utf8 = subst IsUtf8 (sym (printed.member_text-sound text m read)) (if_there IsUtf8 (as_str d) text (str_utf8 d utf8) there);
    })

-- ---- bindings

members_exact : (o : Option Data) (members : List Member) → IfSome o HasUtf8 → option_and_then members_of o ≡ Some members → AreFew IsExactMember 64 members
members_exact None members utf8 h = cc
members_exact (Some d) members utf8 h = short_all binding_member IsExactMember member_exact 64 d members utf8 h

condition_exact : (o : Option Data) (text : Option (List ℕ)) → IfSome o HasUtf8 → condition_text o ≡ Some text → IfSome text IsUtf8
condition_exact None text utf8 h = subst (λ (found : Option (List ℕ)). IfSome found IsUtf8) (same_Some None text h) tt
condition_exact (Some d) text utf8 h =
    option_map_some (λ (found : List ℕ). Some found) (text_at (codes "expression") d) text h (λ found there whole.
    subst (λ (t : Option (List ℕ)). IfSome t IsUtf8) whole (if_there IsUtf8 (text_at (codes "expression") d) found (text_utf8 (codes "expression") d utf8) there))

condition_said : (o : Option (List ℕ)) (found : Option Expression) → IfSome o IsUtf8 → condition_by o ≡ Some found → IfSome found (IsSaidUnder resource_names CelType.Bool)
condition_said None found utf8 h = subst (λ (e : Option Expression). IfSome e (IsSaidUnder resource_names CelType.Bool)) (same_Some None found h) tt
condition_said (Some text) found utf8 h = said_there resource_names CelType.Bool text found utf8 h

binding_exact : (d : Data) (binding : Binding) → HasUtf8 d → binding_in d ≡ Some binding → IsExactBinding binding
unfolding written_binding binding_of
binding_exact d binding utf8 h =
    option_and_then_some binding_of (written_binding d) binding h (λ written there read.
    let role = printed.bound (name_at is_role (codes "role") d) _ written there in
    let members = printed.bound (members_at d) _ written role.2 in
    let text = printed.bound (condition_text (get (codes "condition") d)) _ written members.2 in
    let condition = printed.bound (condition_by text.0) _ binding (ap binding_of (same_Some _ written text.2) ∙ read) in
    let made : Binding = record { role = role.0; members = members.0; condition = condition.0 } in
    let few = members_exact (get (codes "members") d) members.0 (get_utf8 (codes "members") d utf8) members.1 in
    let said = condition_exact (get (codes "condition") d) text.0 (get_utf8 (codes "condition") d utf8) text.1 in
    subst IsExactBinding (same_Some made binding condition.2) (record {
      role = (then-passing is_role (text_at (codes "role") d) role.0 role.1).1;
      few = few.few;
      members = few.each;
      condition = condition_said text.0 condition.0 said condition.1;
    }))

listed_exact : (o : Option Data) (bindings : List Binding) → IfSome o HasUtf8 → option_and_then bindings_of (option_and_then (short_list written_binding 64) o) ≡ Some bindings
    → AreFew IsExactBinding 64 bindings
listed_exact None bindings utf8 h = cc
listed_exact (Some d) bindings utf8 h = short_all binding_in IsExactBinding binding_exact 64 d bindings utf8 (short_bindings d ∙ h)

bindings_exact : (d : Data) (bindings : List Binding) → HasUtf8 d → bindings_at d ≡ Ok bindings → AreExactBindings bindings
bindings_exact d bindings utf8 h =
    bound _ (needed (Field CommandMember.Bindings) (written_at d)) bindings h (λ written written_are read.
    let both = ap (option_and_then bindings_of) (needed-is _ _ written written_are) ∙ needed-is _ _ bindings read in
    let are = listed_exact (get (codes "bindings") d) bindings (get_utf8 (codes "bindings") d utf8) both in
    record { few = are.few; each = are.each })

policy_exact : (d : Data) (command : Command) → HasUtf8 d → policy_command d ≡ Ok command → IsExactCommand command
unfolding policy_command
policy_exact d command utf8 h =
    bound _ (needed (Field CommandMember.Resource) (name_at is_resource (codes "resource") d)) command h (λ resource resource_is h.
    bound _ (bindings_at d) command h (λ bindings bindings_are h.
    let same : Command.Policy resource bindings ≡ command = cc in
    subst IsExactCommand same (named is_resource _ (codes "resource") d resource resource_is, bindings_exact d bindings utf8 bindings_are)))

-- ---- the command

either : {P : Type 0} (b : Bool) (one other : Result Command CommandFault) (command : Command) → (if b then one else other) ≡ Ok command
    → (one ≡ Ok command → P) → (other ≡ Ok command → P) → P
either true one other command h a b = a h
either false one other command h a b = b h

exact_of_kind : (kind : List ℕ) (d : Data) (command : Command) → HasUtf8 d → IsCommand command → command_of_kind kind d ≡ Ok command → IsExactCommand command
exact_of_kind kind d command utf8 is h =
    either (bytes_eq kind (codes "pool")) _ _ command h (pool_exact d command) (λ h.
    either (bytes_eq kind (codes "provider")) _ _ command h (provider_exact d command utf8 is) (λ h.
    either (bytes_eq kind (codes "account")) _ _ command h (account_exact d command) (λ h.
    either (bytes_eq kind (codes "role")) _ _ command h (role_exact d command utf8) (λ h.
    either (bytes_eq kind (codes "scope")) _ _ command h (scope_exact d command utf8) (λ h.
    either (bytes_eq kind (codes "policy")) _ _ command h (policy_exact d command utf8) (λ h. cc))))))

exact_under : (kind : Option (List ℕ)) (d : Data) (command : Command) → HasUtf8 d → IsCommand command → command_under kind d ≡ Ok command → IsExactCommand command
exact_under None d command utf8 is h = cc
exact_under (Some kind) d command utf8 is h = exact_of_kind kind d command utf8 is h

pub command_exact : (d : Data) (command : Command) → HasUtf8 d → command_of d ≡ Ok command → IsExactCommand command
command_exact d command utf8 h = exact_under (text_at (codes "kind") d) d command utf8 (command_formed d command h) h
