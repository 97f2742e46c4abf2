use Rattle.std.proofs.Common.{◌≡◌, ◌++◌, take, drop}
use Rattle.cel_values.specs.declared.value.Value.{Value}
use Rattle.cel_eval.specs.Denotation.{put_entry}
use Rattle.cel_eval.proofs.operators.place_of.Given as goal

abbrev pub invariant-loop-index : goal.invariant-loop-index
invariant-loop-index l = (v : Value) → take l.index l.entries ++ put_entry l.key v (drop l.index l.entries) ≡ put_entry l.key v l.entries
