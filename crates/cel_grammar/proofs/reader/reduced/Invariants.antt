use Rattle.std.proofs.Common.{◌≡◌, length}
use Rattle.cel_grammar.specs.Machine.{reduce}
use Rattle.cel_grammar.specs.Places.{stack_of}
use Rattle.cel_grammar.proofs.reader.reduced.Given as goal

abbrev pub invariant-loop-e : goal.invariant-loop-e
invariant-loop-e l = reduce l.weakest l.e (stack_of l.frames) ≡ reduce l.weakest l.fn.operand (stack_of l.fn.frames)

abbrev pub decreases-loop-e : goal.decreases-loop-e
decreases-loop-e l = length l.frames
