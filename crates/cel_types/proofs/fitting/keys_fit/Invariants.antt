use Rattle.std.proofs.Common.{◌≡◌, drop, map}
use Rattle.cel_types.specs.Types.{all_fit}
use Rattle.cel_types.proofs.fitting.keys_fit.Given as goal

abbrev pub invariant-loop-pair : goal.invariant-loop-pair
invariant-loop-pair l = all_fit l.wanted (map (λ p. p.0) (drop l.pair-index l.pairs)) ≡ all_fit l.wanted (map (λ p. p.0) l.pairs)
