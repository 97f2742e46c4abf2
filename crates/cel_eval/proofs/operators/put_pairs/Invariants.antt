use Rattle.std.proofs.Common.{◌≡◌, [], length}
use Rattle.cel_eval.specs.Denotation.{put_pairs}
use Rattle.cel_eval.proofs.operators.put_pairs.Given as goal

abbrev pub invariant-loop-pairs : goal.invariant-loop-pairs
invariant-loop-pairs l = put_pairs l.entries.items l.pairs ≡ put_pairs [] l.fn.pairs

abbrev pub decreases-loop-pairs : goal.decreases-loop-pairs
decreases-loop-pairs l = length l.pairs
