use Rattle.std.proofs.Common.{◌≡◌, ◌++◌, drop, map, option_map}
use Rattle.pools.specs.Mapped.{all_there, text_of_value}
use Rattle.pools.proofs.texts.texts_in.Given as goal

abbrev pub invariant-loop-value : goal.invariant-loop-value
invariant-loop-value l = all_there (map text_of_value l.values) ≡ option_map (λ rest. l.texts ++ rest) (all_there (map text_of_value (drop l.value-index l.values)))
