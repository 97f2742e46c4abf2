-- An exact provider, written, reads back as itself.
use Rattle.std.proofs.Common.{◌≡◌, ℕ, true, List, Option, None, Some, option_map, IfSome, Ok, refl, ◌∙◌, codes}
use Rattle.std.proofs.lemmas.Bool.{and_parts}
use Rattle.serde_json.specs.Data.{Data, boolean, string, object, no_members, member}
use Rattle.iam_names.specs.Forms.{is_project, is_id}
use Rattle.iam_names.specs.PoolName.{is_pool_name}
use Rattle.json_text.specs.Arrays.{short_list}
use Rattle.json_text.specs.Document.{texts_data}
use Rattle.cel_types.specs.declared.cel_type.CelType.{CelType}
use Rattle.cel_expression.specs.declared.expression.Expression.{Expression}
use Rattle.pools.specs.Environments.{condition_names as claim_names}
use Rattle.pools.specs.Providers.{ProviderView}
use Rattle.pools.specs.declared.provider.TokenIssuer.{TokenIssuer}
use Rattle.boundary.specs.Written.{optional}
use Rattle.service_view.specs.declared.command.Command.{Command}
use Rattle.sts_admin.specs.Commands.{command_of}
use Rattle.sts_admin.specs.Mappings.{is_mapping, mapping_of}
use Rattle.sts_admin.specs.Providers.{audience_of, name_of, issuer_of, disabled_of, treatment_of, provider_command}
use Rattle.command_texts.specs.Exact.{IsSaidUnder, IsShortText, IsExactProvider}
use Rattle.command_texts.specs.Written.{expression_data, mapping_data, key_text, provider_data}
use Rattle.command_texts.proofs.BackMappings.{mapping_formed, mapping_back}
use Rattle.command_texts.proofs.BackParts.{short_texts_back}

-- a provider's object, with its condition aside
abbrev tree : ProviderView → Option Data → Data
tree provider condition = object (
    member (codes "audiences") (texts_data provider.audiences) (
    optional (codes "condition") condition (
    member (codes "disabled") (boolean provider.disabled) (
    member (codes "issuer") (string provider.issuer) (
    member (codes "key") (string (key_text provider.key)) (
    member (codes "kind") (string (codes "provider")) (
    member (codes "mapping") (mapping_data provider.mapping) (
    member (codes "pool") (string provider.name.pool.pool) (
    member (codes "project") (string provider.name.pool.project) (
    member (codes "provider") (string provider.name.provider) no_members))))))))))

name_back : (provider : ProviderView) (condition : Option Data) → is_project provider.name.pool.project ≡ true → is_id provider.name.pool.pool ≡ true → is_id provider.name.provider ≡ true
    → name_of (tree provider condition) ≡ Ok provider.name
unfolding name_of
name_back provider None project pool id = rw (project, pool, id) refl
name_back provider (Some d) project pool id = rw (project, pool, id) refl

abbrev issuer : ProviderView → TokenIssuer
issuer provider = record { name = provider.issuer; key = provider.key; audiences = provider.audiences }

audience_back : (text : List ℕ) → IsShortText text → audience_of (string text) ≡ Some text
audience_back text is = rw is.size refl

audiences_back : (provider : ProviderView) → IsExactProvider provider → short_list audience_of 10 (texts_data provider.audiences) ≡ Some provider.audiences
audiences_back provider is = short_texts_back audience_of IsShortText audience_back 10 provider.audiences is.few is.audiences

issuer_back : (provider : ProviderView) (condition : Option Data) → IsExactProvider provider → issuer_of (tree provider condition) ≡ Ok (issuer provider)
unfolding issuer_of
issuer_back provider None is = rw (is.issuer.size, is.key, audiences_back provider is) refl
issuer_back provider (Some d) is = rw (is.issuer.size, is.key, audiences_back provider is) refl

treatment_back : (provider : ProviderView) (condition : Option Expression) → IfSome condition (IsSaidUnder claim_names CelType.Bool)
    → is_mapping (mapping_data provider.mapping) ≡ true → mapping_of (mapping_data provider.mapping) ≡ Some provider.mapping
    → treatment_of (tree provider (option_map expression_data condition)) ≡ Ok (record { mapping = provider.mapping; condition = condition; disabled = provider.disabled })
unfolding treatment_of disabled_of
treatment_back provider None said formed read = rw (formed, read) refl
treatment_back provider (Some e) said formed read = rw (formed, read, said.read) refl

provider_read : (provider : ProviderView) (condition : Option Expression) (d : Data) → name_of d ≡ Ok provider.name → issuer_of d ≡ Ok (issuer provider)
    → treatment_of d ≡ Ok (record { mapping = provider.mapping; condition = condition; disabled = provider.disabled })
    → provider_command d ≡ Ok (Command.Provider (record {
      name = provider.name;
      issuer = provider.issuer;
      key = provider.key;
      audiences = provider.audiences;
      mapping = provider.mapping;
      condition = condition;
      disabled = provider.disabled;
    }))
unfolding provider_command
provider_read provider condition d name signed treated = rw (name, signed, treated) refl

kind_read : (provider : ProviderView) (condition : Option Data) → command_of (tree provider condition) ≡ provider_command (tree provider condition)
kind_read provider None = refl
kind_read provider (Some d) = refl

pub provider_back : (provider : ProviderView) → IsExactProvider provider → command_of (provider_data provider) ≡ Ok (Command.Provider provider)
unfolding provider_data
provider_back provider is =
    let condition = option_map expression_data provider.condition in
    let named = and_parts (is_pool_name provider.name.pool) (is_id provider.name.provider) is.formed.name in
    let pooled = and_parts (is_project provider.name.pool.project) (is_id provider.name.pool.pool) named.0 in
    kind_read provider condition
    ∙ provider_read provider provider.condition (tree provider condition)
    (name_back provider condition pooled.0 pooled.1 named.1)
    (issuer_back provider condition is)
    (treatment_back provider provider.condition is.condition
    (mapping_formed provider.mapping is.formed.attributes is.mapping.few)
    (mapping_back provider.mapping is.mapping is.formed.attributes is.formed.rising))
