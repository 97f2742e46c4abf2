use Rattle.std.proofs.Common.{◌≡◌, drop}
use Rattle.client_proto.specs.ExpireTimes.{fits_form}
use Rattle.client_proto.proofs.expire_time.fits_form.Given as goal

abbrev pub invariant-loop-index : goal.invariant-loop-index
invariant-loop-index l = fits_form (drop l.index l.form) (drop l.index l.text) ≡ fits_form l.form l.text
