use Rattle.std.proofs.Common.{◌≡◌, ◌++◌, map}
use Rattle.form_urlencoded.specs.Parse.{pairs_left}
use Rattle.exchange_form.specs.Forms.{form_of, parameter_of}
use Rattle.exchange_form.proofs.form.read_form.Given as goal

abbrev pub invariant-loop-pair : goal.invariant-loop-pair
invariant-loop-pair l = form_of l.body ≡ l.form ++ map parameter_of (pairs_left l.pair-iterator)
