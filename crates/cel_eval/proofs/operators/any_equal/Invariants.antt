use Rattle.std.proofs.Common.{◌≡◌, drop}
use Rattle.cel_eval.specs.Denotation.{any_equal}
use Rattle.cel_eval.proofs.operators.any_equal.Given as goal

abbrev pub invariant-loop-item : goal.invariant-loop-item
invariant-loop-item l = any_equal l.value (drop l.item-index l.items) ≡ any_equal l.value l.items
