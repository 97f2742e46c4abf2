-- The form of a configuration.
use Rattle.std.specs.Prelude.{◌≡◌, ℕ, List, true, ⊤, Option, None, Some}
use Rattle.std.specs.Str.{IsUtf8}
use Rattle.base_types.specs.Forms.{has_size}
use Rattle.iam_names.specs.PoolName.{is_pool_name}
use Rattle.iam_names.specs.Forms.{is_id}
use Rattle.service_config.specs.declared.config.Config.{Config}
use Rattle.service_config.specs.declared.config.StartProvider.{StartProvider}
use Rattle.service_config.specs.Configuration.{is_secret}

-- a text in UTF-8 of 1 to 256 bytes
pub record IsFormedIssuer (issuer : List ℕ) : Type 0 where
  pub utf8 : IsUtf8 issuer
  pub size : has_size 1 256 issuer ≡ true

-- each part of the provider is of its form; a key has 32 to 128 bytes by its type
pub record IsFormedProvider (provider : StartProvider) : Type 0 where
  pub pool : is_pool_name provider.pool ≡ true
  pub id : is_id provider.id ≡ true
  pub issuer : IsFormedIssuer provider.issuer

-- the provider is of its form, if there is one
abbrev pub IsFormedStart : Option StartProvider → Type 0
IsFormedStart None = ⊤
IsFormedStart (Some provider) = IsFormedProvider provider

-- each part of the configuration is of its form; a key has 32 to 128 bytes by its type
pub record IsFormedConfig (config : Config) : Type 0 where
  pub issuer : IsFormedIssuer config.issuer
  pub admin : is_secret config.admin ≡ true
  pub gate : is_secret config.gate ≡ true
  pub start : IsFormedStart config.start
