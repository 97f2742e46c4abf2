-- The command that a JSON value is, or the first rule that it fails.
use Rattle.std.specs.Prelude.{ℕ, List, Option, None, Some, Result, Ok, Err, if◌then◌else◌, codes}
use Rattle.std.specs.Str.{bytes_eq}
use Rattle.serde_json.specs.Data.{Data}
use Rattle.base_types.specs.Steps.{◌>>=◌, needed}
use Rattle.json_text.specs.Document.{text_at}
use Rattle.json_text.specs.Members.{name_at}
use Rattle.allow_policy.specs.declared.binding.Binding.{Binding}
use Rattle.iam_names.specs.Forms.{is_project, is_id, is_account, is_role, is_scope_word, is_resource}
use Rattle.sts_admin.specs.Bindings.{written_at, bindings_of}
use Rattle.sts_admin.specs.Members.{disabled_at, permissions_at, scope_set_at}
use Rattle.sts_admin.specs.Providers.{provider_command}
use Rattle.service_view.specs.declared.command.Command.{Command}
use Rattle.sts_admin.specs.declared.command.CommandFault.{CommandFault}
use Rattle.sts_admin.specs.declared.command.CommandMember.{CommandMember}
use Rattle.sts_admin.specs.declared.command.CommandFault.TheVariants.{Kind, Field, Expression}

-- a pool of a project, and whether it is disabled
unfoldable pub pool_command : Data → Result Command CommandFault
pool_command d = do
  project ← needed (Field CommandMember.Project) (name_at is_project (codes "project") d)
  pool ← needed (Field CommandMember.Pool) (name_at is_id (codes "pool") d)
  disabled ← needed (Field CommandMember.Disabled) (disabled_at d)
  Ok (Command.Pool (record { project = project; pool = pool }) disabled)

-- a service account, and whether it is disabled
unfoldable pub account_command : Data → Result Command CommandFault
account_command d = do
  account ← needed (Field CommandMember.Email) (name_at is_account (codes "email") d)
  disabled ← needed (Field CommandMember.Disabled) (disabled_at d)
  Ok (Command.Account account disabled)

-- a role and its permissions
unfoldable pub role_command : Data → Result Command CommandFault
role_command d = do
  role ← needed (Field CommandMember.Role) (name_at is_role (codes "role") d)
  permissions ← needed (Field CommandMember.Permissions) (permissions_at d)
  Ok (Command.Role role permissions)

-- a scope word and the permissions that it stands for
unfoldable pub scope_command : Data → Result Command CommandFault
scope_command d = do
  word ← needed (Field CommandMember.Scope) (name_at is_scope_word (codes "scope") d)
  permissions ← needed (Field CommandMember.Permissions) (scope_set_at d)
  Ok (Command.Scope word permissions)

-- the bindings: their form comes before what expressions their conditions are
abbrev pub bindings_at : Data → Result (List Binding) CommandFault
bindings_at d = do
  written ← needed (Field CommandMember.Bindings) (written_at d)
  needed (Expression CommandMember.Bindings) (bindings_of written)

-- a resource and the bindings of its allow policy
unfoldable pub policy_command : Data → Result Command CommandFault
policy_command d = do
  resource ← needed (Field CommandMember.Resource) (name_at is_resource (codes "resource") d)
  bindings ← bindings_at d
  Ok (Command.Policy resource bindings)

-- the command of a kind, where there is one of that name
abbrev pub command_of_kind : List ℕ → Data → Result Command CommandFault
command_of_kind kind d =
    if bytes_eq kind (codes "pool") then pool_command d
    else (if bytes_eq kind (codes "provider") then provider_command d
    else (if bytes_eq kind (codes "account") then account_command d
    else (if bytes_eq kind (codes "role") then role_command d
    else (if bytes_eq kind (codes "scope") then scope_command d
    else (if bytes_eq kind (codes "policy") then policy_command d
    else Err Kind)))))

-- an object without a kind is no command
abbrev pub command_under : Option (List ℕ) → Data → Result Command CommandFault
command_under None d = Err Kind
command_under (Some kind) d = command_of_kind kind d

-- the command of a JSON value
abbrev pub command_of : Data → Result Command CommandFault
command_of d = command_under (text_at (codes "kind") d) d
