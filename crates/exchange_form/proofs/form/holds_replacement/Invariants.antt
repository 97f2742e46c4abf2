use Rattle.std.proofs.Common.{◌≡◌, length}
use Rattle.exchange_form.specs.Forms.{holds_replacement}
use Rattle.exchange_form.proofs.form.holds_replacement.Given as goal

abbrev pub invariant-bytes : goal.invariant-bytes
invariant-bytes l = holds_replacement l.rest ≡ holds_replacement l.text

abbrev pub decreases-bytes : goal.decreases-bytes
decreases-bytes l = length l.rest
