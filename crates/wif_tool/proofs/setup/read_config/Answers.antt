use Rattle.std.proofs.Common.{List, ℕ, ap, subst}
use Rattle.std.specs.Prelude.{Err}
use Rattle.service_config.specs.Configuration.{IsConfiguration}
use Rattle.service_config.specs.declared.config.Config.{Config}
use Rattle.service_config.specs.declared.config.ConfigError.{ConfigError}
use Rattle.wif_tool.proofs.setup.read_config.Goals as goal

pub returns-in-Err-Form-clause-form : goal.returns-in-Err-Form-clause-form
returns-in-Err-Form-clause-form g c = λ is. record {
  bytes = c.in_ok-bytes.bytes.items;
  read = c.in_ok-bytes.ensures.read;
  none = subst (λ (b : List ℕ). (config : Config) → IsConfiguration b config → ⊥) c.as_slice.ensures.value
      (c.in-Err-Form.ensures.form (ap (λ (e : ConfigError). Err e) c.in-Err-Form.field-0-is));
}
