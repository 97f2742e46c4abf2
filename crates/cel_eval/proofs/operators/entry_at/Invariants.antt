use Rattle.std.proofs.Common.{◌≡◌, drop}
use Rattle.cel_eval.specs.Denotation.{entry_at}
use Rattle.cel_eval.proofs.operators.entry_at.Given as goal

abbrev pub invariant-loop-entry : goal.invariant-loop-entry
invariant-loop-entry l = entry_at l.key (drop l.entry-index l.entries) ≡ entry_at l.key l.entries
