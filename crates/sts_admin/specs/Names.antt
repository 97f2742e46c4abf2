-- The names of a command's members.
use Rattle.std.specs.Prelude.{ℕ, List, codes}
use Rattle.sts_admin.specs.declared.command.CommandMember.{CommandMember}
use Rattle.sts_admin.specs.declared.command.CommandMember.TheVariants.{Project, Pool, Provider, Issuer, Key, Audiences, Mapping, Condition, Disabled, Email, Role, Permissions, Scope, Resource, Bindings}

-- the name under which the member stands in the object
abbrev pub member_name : CommandMember → List ℕ
member_name Project = codes "project"
member_name Pool = codes "pool"
member_name Provider = codes "provider"
member_name Issuer = codes "issuer"
member_name Key = codes "key"
member_name Audiences = codes "audiences"
member_name Mapping = codes "mapping"
member_name Condition = codes "condition"
member_name Disabled = codes "disabled"
member_name Email = codes "email"
member_name Role = codes "role"
member_name Permissions = codes "permissions"
member_name Scope = codes "scope"
member_name Resource = codes "resource"
member_name Bindings = codes "bindings"
