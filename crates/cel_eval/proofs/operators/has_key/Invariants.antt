use Rattle.std.proofs.Common.{◌≡◌, drop}
use Rattle.cel_eval.specs.Denotation.{has_key}
use Rattle.cel_eval.proofs.operators.has_key.Given as goal

abbrev pub invariant-loop-entry : goal.invariant-loop-entry
invariant-loop-entry l = has_key l.key (drop l.entry-index l.entries) ≡ has_key l.key l.entries
