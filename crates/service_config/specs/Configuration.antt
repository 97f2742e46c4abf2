-- What a configuration file is.
use Rattle.std.specs.Prelude.{◌≡◌, ◌≤◌, ◌&&◌, ℕ, List, length, codes, Bool, Option, None, Some, option_and_then, option_map, Result, ⊤}
use Rattle.std.specs.Result.{result_ok}
use Rattle.base64.specs.Engines.{url_safe_no_pad}
use Rattle.base64.specs.GeneralPurpose.{decode_of}
use Rattle.serde_json.specs.Data.{Data}
use Rattle.serde_json.specs.Find.{get}
use Rattle.json_text.specs.Document.{document, text_at}
use Rattle.base_types.specs.Forms.{has_size, is_visible_text, passing}
use Rattle.base_types.specs.Reading.{◌>>=◌, ReadsOr}
use Rattle.iam_names.specs.declared.audience.Audience.{Audience}
use Rattle.iam_names.specs.PoolName.{pool_of}
use Rattle.iam_names.specs.Forms.{is_id}
use Rattle.service_config.specs.declared.config.Config.{Config}
use Rattle.service_config.specs.declared.config.StartProvider.{StartProvider}
use Rattle.service_config.specs.declared.config.ConfigError.{ConfigError}
use Rattle.service_config.specs.declared.config.ConfigError.TheVariants.{Form, Memory}

-- the provider's full name
abbrev pub provider_name : StartProvider → Audience
provider_name provider = record { pool = provider.pool; provider = provider.id }

-- the most bytes of a configuration
abbrev pub config_limit : ℕ
config_limit = 65536

-- a text of 1 to 256 bytes
abbrev pub issuer_of : List ℕ → Option (List ℕ)
issuer_of text = passing (has_size 1 256) text

-- base64url without padding of 32 to 128 bytes
abbrev pub key_of : List ℕ → Option (List ℕ)
key_of text = option_and_then (passing (has_size 32 128)) (result_ok (decode_of url_safe_no_pad text))

-- 16 to 256 visible ASCII characters
abbrev pub is_secret : List ℕ → Bool
is_secret text = has_size 16 256 text && is_visible_text text

-- the text where it is a secret
abbrev pub secret_of : List ℕ → Option (List ℕ)
secret_of text = passing is_secret text

-- the provider that an object says, with each member of its form
unfoldable pub start_of : Data → Option StartProvider
start_of json = do
  project ← text_at (codes "project") json
  pool_text ← text_at (codes "pool") json
  id_text ← text_at (codes "provider") json
  issuer ← option_and_then issuer_of (text_at (codes "issuer") json)
  pool ← pool_of project pool_text
  id ← passing is_id id_text
  key ← option_and_then key_of (text_at (codes "key") json)
  Some (record { pool = pool; id = id; issuer = issuer; key = key })

-- the member may be left out
abbrev pub start_under : Option Data → Option (Option StartProvider)
start_under None = Some None
start_under (Some json) = option_map (λ provider. Some provider) (start_of json)

-- the provider under `start`
abbrev pub start_at : Data → Option (Option StartProvider)
start_at json = start_under (get (codes "start") json)

-- the configuration that an object says, with each member of its form
unfoldable pub config_of : Data → Option Config
config_of json = do
  issuer ← option_and_then issuer_of (text_at (codes "issuer") json)
  admin ← option_and_then secret_of (text_at (codes "admin") json)
  gate ← option_and_then secret_of (text_at (codes "gate") json)
  key ← option_and_then key_of (text_at (codes "key") json)
  start ← start_at json
  Some (record { issuer = issuer; key = key; admin = admin; gate = gate; start = start })

-- These bytes are this configuration.
pub record IsConfiguration (bytes : List ℕ) (config : Config) : Type 0 where
  pub size : length bytes ≤ config_limit
  pub fields : option_and_then config_of (document bytes) ≡ Some config

-- nothing is there, or nothing is said where memory ran out
abbrev pub Refuses : {Y : Type 0} → ConfigError → Option Y → Type 0
Refuses Form there = there ≡ None
Refuses Memory there = ⊤

-- What was read is what there is.
abbrev pub Reads : {X Y : Type 0} → (X → Y) → Result X ConfigError → Option Y → Type 0
Reads view result there = ReadsOr Refuses view result there
