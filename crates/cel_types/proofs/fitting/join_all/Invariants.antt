use Rattle.std.proofs.Common.{◌≡◌, ◌++◌, [], ◌∷◌, length}
use Rattle.cel_types.specs.Types.{join_all}
use Rattle.cel_types.proofs.fitting.join_all.Given as goal

abbrev pub invariant-loop-t : goal.invariant-loop-t
invariant-loop-t l = join_all (l.types ++ l.joined ∷ []) ≡ join_all l.fn.types

abbrev pub decreases-loop-t : goal.decreases-loop-t
decreases-loop-t l = length l.types
