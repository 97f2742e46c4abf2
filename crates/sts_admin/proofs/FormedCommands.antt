-- A command that is read has its form.
use Rattle.std.proofs.Common.{◌≡◌, ℕ, List, Bool, true, false, ◌&&◌, Option, Some, None, IfSome, IfOk, Result, Ok, Err, option_and_then, subst}
use Rattle.std.specs.Prelude.{codes, if◌then◌else◌}
use Rattle.std.specs.Str.{bytes_eq}
use Rattle.serde_json.specs.Data.{Data}
use Rattle.serde_json.specs.Find.{get}
use Rattle.base_types.specs.Steps.{◌>>=◌, needed}
use Rattle.json_text.specs.Document.{text_at}
use Rattle.json_text.specs.Members.{name_at}
use Rattle.iam_names.specs.Audience.{is_audience}
use Rattle.iam_names.specs.Forms.{is_project, is_id, is_account, is_role, is_scope_word, is_resource}
use Rattle.iam_names.specs.declared.audience.Audience.{Audience}
use Rattle.cel_expression.specs.declared.expression.Expression.{Expression}
use Rattle.pools.specs.Providers.{ProviderView}
use Rattle.pools.specs.declared.provider.TokenIssuer.{TokenIssuer}
use Rattle.pools.specs.declared.mapping.Mapping.{Mapping}
use Rattle.service_view.specs.Commands.{IsCommand}
use Rattle.service_view.specs.declared.command.Command.{Command}
use Rattle.sts_admin.specs.Commands.{pool_command, account_command, role_command, scope_command, bindings_at, policy_command, command_of_kind, command_under, command_of}
use Rattle.sts_admin.specs.Mappings.{mapping_of}
use Rattle.sts_admin.specs.Members.{disabled_at, permissions_at, scope_set_at}
use Rattle.sts_admin.specs.Providers.{name_of, issuer_of, disabled_of, mapping_at, condition_at, treatment_of, provider_command}
use Rattle.sts_admin.specs.declared.command.CommandFault.{CommandFault}
use Rattle.sts_admin.specs.declared.command.CommandFault.TheVariants.{Field}
use Rattle.sts_admin.specs.declared.command.CommandMember.{CommandMember}
use Rattle.sts_admin.specs.declared.provider.Treatment.{Treatment}
use Rattle.sts_admin.proofs.FormedMappings.{AreFormed, passing_passes, mapping_formed}

-- ---- steps that may fail

given : {X Y E : Type 0} (P : X → Type 0) (Q : Y → Type 0) (r : Result X E) (next : X → Result Y E) → IfOk r P → ((x : X) → P x → IfOk (next x) Q) → IfOk (r >>= next) Q
given P Q (Ok x) next h step = step x h
given P Q (Err fault) next h step = tt

whatever : {X Y E : Type 0} (Q : Y → Type 0) (r : Result X E) (next : X → Result Y E) → ((x : X) → IfOk (next x) Q) → IfOk (r >>= next) Q
whatever Q (Ok x) next step = step x
whatever Q (Err fault) next step = tt

there : {X E : Type 0} (P : X → Type 0) (fault : E) (o : Option X) → IfSome o P → IfOk (needed fault o) P
there P fault None h = tt
there P fault (Some x) h = h

named : {E : Type 0} (test : List ℕ → Bool) (fault : E) (name : List ℕ) (d : Data) → IfOk (needed fault (name_at test name d)) (λ text. test text ≡ true)
named test fault name d = there (λ text. test text ≡ true) fault (name_at test name d) (passing_passes test (text_at name d))

joined : (a b : Bool) → a ≡ true → b ≡ true → (a && b) ≡ true
joined true b is h = h
joined false b is h = cc

-- ---- a provider

abbrev project_at : Data → Result (List ℕ) CommandFault
project_at d = needed (Field CommandMember.Project) (name_at is_project (codes "project") d)

abbrev pool_at : Data → Result (List ℕ) CommandFault
pool_at d = needed (Field CommandMember.Pool) (name_at is_id (codes "pool") d)

abbrev provider_at : Data → Result (List ℕ) CommandFault
provider_at d = needed (Field CommandMember.Provider) (name_at is_id (codes "provider") d)

abbrev IsNamed : Audience → Type 0
IsNamed name = is_audience name ≡ true

abbrev name_by : List ℕ → List ℕ → List ℕ → Audience
name_by project pool provider = record { pool = record { project = project; pool = pool }; provider = provider }

name_formed : (d : Data) → IfOk (name_of d) IsNamed
unfolding name_of
name_formed d =
    given (λ project. is_project project ≡ true) IsNamed (project_at d)
    (λ project. pool_at d >>= (λ pool. provider_at d >>= (λ provider. Ok (name_by project pool provider))))
    (named is_project _ (codes "project") d) (λ project is_number.
    given (λ pool. is_id pool ≡ true) IsNamed (pool_at d) (λ pool. provider_at d >>= (λ provider. Ok (name_by project pool provider)))
    (named is_id _ (codes "pool") d) (λ pool is_pool.
    given (λ provider. is_id provider ≡ true) IsNamed (provider_at d) (λ provider. Ok (name_by project pool provider))
    (named is_id _ (codes "provider") d) (λ provider is_provider.
    joined (is_project project && is_id pool) (is_id provider) (joined (is_project project) (is_id pool) is_number is_pool) is_provider)))

abbrev IsMapped : Mapping → Type 0
IsMapped mapping = AreFormed mapping.attributes

abbrev IsTreated : Treatment → Type 0
IsTreated treatment = IsMapped treatment.mapping

of_member : (o : Option Data) → IfSome (option_and_then mapping_of o) IsMapped
of_member None = tt
of_member (Some d) = mapping_formed d

abbrev treated : Bool → Mapping → Option Expression → Treatment
treated disabled mapping condition = record { mapping = mapping; condition = condition; disabled = disabled }

treatment_formed : (d : Data) → IfOk (treatment_of d) IsTreated
unfolding treatment_of
treatment_formed d =
    whatever IsTreated (disabled_of d) (λ disabled. mapping_at d >>= (λ mapping. condition_at d >>= (λ condition. Ok (treated disabled mapping condition)))) (λ disabled.
    given IsMapped IsTreated (mapping_at d) (λ mapping. condition_at d >>= (λ condition. Ok (treated disabled mapping condition)))
    (there IsMapped _ (option_and_then mapping_of (get (codes "mapping") d)) (of_member (get (codes "mapping") d))) (λ mapping formed.
    whatever IsTreated (condition_at d) (λ condition. Ok (treated disabled mapping condition)) (λ condition. formed)))

abbrev provider_by : Audience → TokenIssuer → Treatment → ProviderView
provider_by name issuer treatment = record {
  name = name;
  issuer = issuer.name;
  key = issuer.key;
  audiences = issuer.audiences;
  mapping = treatment.mapping;
  condition = treatment.condition;
  disabled = treatment.disabled;
}

abbrev put_by : Audience → TokenIssuer → Treatment → Result Command CommandFault
put_by name issuer treatment = Ok (Command.Provider (provider_by name issuer treatment))

provider_formed : (d : Data) → IfOk (provider_command d) IsCommand
unfolding provider_command
provider_formed d =
    given IsNamed IsCommand (name_of d) (λ name. issuer_of d >>= (λ issuer. treatment_of d >>= put_by name issuer)) (name_formed d) (λ name is_name.
    whatever IsCommand (issuer_of d) (λ issuer. treatment_of d >>= put_by name issuer) (λ issuer.
    given IsTreated IsCommand (treatment_of d) (put_by name issuer) (treatment_formed d) (λ treatment formed.
    record { name = is_name; attributes = formed.names; rising = formed.rising })))

-- ---- the other kinds

two : {X Y : Type 0} (one : Result X CommandFault) (other : Result Y CommandFault) (made : X → Y → Command) → ((x : X) (y : Y) → IsCommand (made x y)) → IfOk (one >>= (λ x. other >>= (λ y. Ok (made x y)))) IsCommand
two (Ok x) (Ok y) made h = h x y
two (Ok x) (Err fault) made h = tt
two (Err fault) other made h = tt

pool_formed : (d : Data) → IfOk (pool_command d) IsCommand
unfolding pool_command
pool_formed d =
    whatever IsCommand (project_at d) (λ project. pool_at d >>= (λ pool. needed (Field CommandMember.Disabled) (disabled_at d) >>= (λ disabled. Ok (Command.Pool (record { project = project; pool = pool }) disabled))))
    (λ project. two (pool_at d) (needed (Field CommandMember.Disabled) (disabled_at d)) (λ pool disabled. Command.Pool (record { project = project; pool = pool }) disabled) (λ pool disabled. tt))

account_formed : (d : Data) → IfOk (account_command d) IsCommand
unfolding account_command
account_formed d = two (needed (Field CommandMember.Email) (name_at is_account (codes "email") d)) (needed (Field CommandMember.Disabled) (disabled_at d)) Command.Account (λ account disabled. tt)

role_formed : (d : Data) → IfOk (role_command d) IsCommand
unfolding role_command
role_formed d = two (needed (Field CommandMember.Role) (name_at is_role (codes "role") d)) (needed (Field CommandMember.Permissions) (permissions_at d)) Command.Role (λ role permissions. tt)

scope_formed : (d : Data) → IfOk (scope_command d) IsCommand
unfolding scope_command
scope_formed d = two (needed (Field CommandMember.Scope) (name_at is_scope_word (codes "scope") d)) (needed (Field CommandMember.Permissions) (scope_set_at d)) Command.Scope (λ word permissions. tt)

policy_formed : (d : Data) → IfOk (policy_command d) IsCommand
unfolding policy_command
policy_formed d = two (needed (Field CommandMember.Resource) (name_at is_resource (codes "resource") d)) (bindings_at d) Command.Policy (λ resource bindings. tt)

-- ---- the command

either : (b : Bool) (one other : Result Command CommandFault) → IfOk one IsCommand → IfOk other IsCommand → IfOk (if b then one else other) IsCommand
either true one other a b = a
either false one other a b = b

formed_of_kind : (kind : List ℕ) (d : Data) → IfOk (command_of_kind kind d) IsCommand
formed_of_kind kind d =
    either (bytes_eq kind (codes "pool")) _ _ (pool_formed d)
    (either (bytes_eq kind (codes "provider")) _ _ (provider_formed d)
    (either (bytes_eq kind (codes "account")) _ _ (account_formed d)
    (either (bytes_eq kind (codes "role")) _ _ (role_formed d)
    (either (bytes_eq kind (codes "scope")) _ _ (scope_formed d)
    (either (bytes_eq kind (codes "policy")) _ _ (policy_formed d) tt)))))

formed_under : (kind : Option (List ℕ)) (d : Data) → IfOk (command_under kind d) IsCommand
formed_under None d = tt
formed_under (Some kind) d = formed_of_kind kind d

pub command_formed : (d : Data) (command : Command) → command_of d ≡ Ok command → IsCommand command
command_formed d command is = subst (λ r. IfOk r IsCommand) is (formed_under (text_at (codes "kind") d) d)
