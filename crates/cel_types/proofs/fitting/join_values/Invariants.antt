use Rattle.std.proofs.Common.{◌≡◌, ◌++◌, [], ◌∷◌, length, map}
use Rattle.cel_types.specs.Types.{join_all}
use Rattle.cel_types.proofs.fitting.join_values.Given as goal

abbrev pub invariant-loop-key : goal.invariant-loop-key
invariant-loop-key l = join_all (map (λ p. p.1) l.pairs ++ l.joined ∷ []) ≡ join_all (map (λ p. p.1) l.fn.pairs)

abbrev pub decreases-loop-key : goal.decreases-loop-key
decreases-loop-key l = length l.pairs
