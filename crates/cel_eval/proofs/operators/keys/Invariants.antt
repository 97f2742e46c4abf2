use Rattle.std.proofs.Common.{◌≡◌, take, map}
use Rattle.cel_eval.specs.Denotation.{key_of}
use Rattle.cel_eval.proofs.operators.keys.Given as goal

abbrev pub invariant-loop-entry : goal.invariant-loop-entry
invariant-loop-entry l = l.all ≡ map key_of (take l.entry-index l.entries)
