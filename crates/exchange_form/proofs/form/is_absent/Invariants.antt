use Rattle.std.proofs.Common.{◌≡◌, drop}
use Rattle.exchange_form.specs.Forms.{values}
use Rattle.exchange_form.proofs.form.is_absent.Given as goal

abbrev pub invariant-loop-parameter : goal.invariant-loop-parameter
invariant-loop-parameter l = values l.name l.form ≡ values l.name (drop l.parameter-index l.form)
