use Rattle.std.proofs.Common.{◌≡◌, ◌++◌, drop, map}
use Rattle.cel_values.specs.declared.value.Value.{Value}
use Rattle.pools.proofs.environment.texts_of.Given as goal

abbrev pub invariant-loop-text : goal.invariant-loop-text
invariant-loop-text l = l.values ++ map Value.Text (drop l.text-index l.texts) ≡ map Value.Text l.texts
