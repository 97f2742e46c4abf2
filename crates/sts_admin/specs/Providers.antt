-- The command that puts a provider.
use Rattle.std.specs.Prelude.{ℕ, List, [], Bool, true, is_some, Option, None, Some, option_map, option_and_then, Result, Ok, Err, ⊤, if◌then◌else◌, codes}
use Rattle.serde_json.specs.Data.{Data}
use Rattle.serde_json.specs.Find.{get, as_str}
use Rattle.base_types.specs.Forms.{has_size, passing}
use Rattle.base_types.specs.Steps.{◌>>=◌, needed}
use Rattle.json_text.specs.Arrays.{short_list}
use Rattle.json_text.specs.Document.{text_at}
use Rattle.json_text.specs.Members.{name_at}
use Rattle.iam_names.specs.Forms.{passes, is_project, is_id}
use Rattle.iam_names.specs.declared.audience.Audience.{Audience}
use Rattle.cel_types.specs.declared.cel_type.CelType.{CelType}
use Rattle.cel_expression.specs.declared.expression.Expression.{Expression}
use Rattle.cel_reader.specs.Expressions.{expression_of}
use Rattle.pools.specs.Environments.{condition_names}
use Rattle.pools.specs.declared.mapping.Mapping.{Mapping}
use Rattle.pools.specs.declared.provider.TokenIssuer.{TokenIssuer}
use Rattle.service_config.specs.Configuration.{key_of}
use Rattle.service_view.specs.declared.command.Command.{Command}
use Rattle.sts_admin.specs.Mappings.{is_mapping, mapping_of}
use Rattle.sts_admin.specs.Members.{disabled_at}
use Rattle.sts_admin.specs.declared.command.CommandFault.{CommandFault}
use Rattle.sts_admin.specs.declared.command.CommandFault.TheVariants.{Field, Expression as Unread}
use Rattle.sts_admin.specs.declared.command.CommandMember.{CommandMember}
use Rattle.sts_admin.specs.declared.provider.Treatment.{Treatment}

-- ---- its members

-- the `iss` of its tokens, of 1 to 256 bytes
abbrev pub issuer_at : Data → Option (List ℕ)
issuer_at d = name_at (has_size 1 256) (codes "issuer") d

-- a text of 1 to 256 bytes
abbrev pub audience_of : Data → Option (List ℕ)
audience_of d = option_and_then (passing (has_size 1 256)) (as_str d)

-- an array of at most 10 of them, and none where it is absent
abbrev pub audiences_by : Option Data → Option (List (List ℕ))
audiences_by None = Some []
audiences_by (Some d) = short_list audience_of 10 d

-- the audiences under `audiences`
abbrev pub audiences_at : Data → Option (List (List ℕ))
audiences_at d = audiences_by (get (codes "audiences") d)

-- the key under `key`
abbrev pub key_at : Data → Option (List ℕ)
key_at d = option_and_then key_of (text_at (codes "key") d)

-- the mapping is there, and of its form
abbrev pub has_mapping : Data → Bool
has_mapping d = passes is_mapping (get (codes "mapping") d)

-- a text, where it is there
abbrev pub is_text_by : Option Data → Bool
is_text_by None = true
is_text_by (Some d) = is_some (as_str d)

-- the condition is absent, or a text
abbrev pub has_condition : Data → Bool
has_condition d = is_text_by (get (codes "condition") d)

-- the condition's expression, where there is a text
abbrev pub condition_by : Option (List ℕ) → Option (Option Expression)
condition_by None = Some None
condition_by (Some text) = option_map (λ e. Some e) (expression_of condition_names CelType.Bool text)

-- ---- the command

-- nothing, or the fault of a member without its form
abbrev pub formed : CommandMember → Bool → Result ⊤ CommandFault
formed name is = if is then Ok tt else Err (Field name)

-- its full name
unfoldable pub name_of : Data → Result Audience CommandFault
name_of d = do
  project ← needed (Field CommandMember.Project) (name_at is_project (codes "project") d)
  pool ← needed (Field CommandMember.Pool) (name_at is_id (codes "pool") d)
  provider ← needed (Field CommandMember.Provider) (name_at is_id (codes "provider") d)
  Ok (record { pool = record { project = project; pool = pool }; provider = provider })

-- who signs its tokens, and for whom
unfoldable pub issuer_of : Data → Result TokenIssuer CommandFault
issuer_of d = do
  name ← needed (Field CommandMember.Issuer) (issuer_at d)
  key ← needed (Field CommandMember.Key) (key_at d)
  audiences ← needed (Field CommandMember.Audiences) (audiences_at d)
  Ok (record { name = name; key = key; audiences = audiences })

-- the mapping and the condition have their forms, and whether it is disabled
unfoldable pub disabled_of : Data → Result Bool CommandFault
disabled_of d = do
  mapping ← formed CommandMember.Mapping (has_mapping d)
  condition ← formed CommandMember.Condition (has_condition d)
  needed (Field CommandMember.Disabled) (disabled_at d)

-- the mapping's expressions, where each text is one
abbrev pub mapping_at : Data → Result Mapping CommandFault
mapping_at d = needed (Unread CommandMember.Mapping) (option_and_then mapping_of (get (codes "mapping") d))

-- the condition's expression, where its text is one
abbrev pub condition_at : Data → Result (Option Expression) CommandFault
condition_at d = needed (Unread CommandMember.Condition) (condition_by (text_at (codes "condition") d))

-- what it does with claims: the forms of the members come before what expressions their texts are
unfoldable pub treatment_of : Data → Result Treatment CommandFault
treatment_of d = do
  disabled ← disabled_of d
  mapping ← mapping_at d
  condition ← condition_at d
  Ok (record { mapping = mapping; condition = condition; disabled = disabled })

-- a provider
unfoldable pub provider_command : Data → Result Command CommandFault
provider_command d = do
  name ← name_of d
  issuer ← issuer_of d
  treatment ← treatment_of d
  Ok (Command.Provider (record {
    name = name;
    issuer = issuer.name;
    key = issuer.key;
    audiences = issuer.audiences;
    mapping = treatment.mapping;
    condition = treatment.condition;
    disabled = treatment.disabled;
  }))
