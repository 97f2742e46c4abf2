use Rattle.std.proofs.Common.{◌≡◌, drop}
use Rattle.std.specs.Prelude.{option_map}
use Rattle.exchange_form.specs.Forms.{values}
use Rattle.exchange_form.proofs.Ones.{with_found}
use Rattle.exchange_form.proofs.form.once.Given as goal

abbrev pub invariant-loop-parameter : goal.invariant-loop-parameter
invariant-loop-parameter l = values l.name l.form ≡ with_found (option_map (λ value. value.now) l.found) (values l.name (drop l.parameter-index l.form))
