use Rattle.std.proofs.Common.{◌≡◌}
use Rattle.base_types.specs.Named.{by_bytes}
use Rattle.pools.specs.Lengths.{first_long_attribute}
use Rattle.pools.proofs.lengths.check_attributes.Given as goal

abbrev pub invariant-loop-name : goal.invariant-loop-name
invariant-loop-name l = first_long_attribute (by_bytes l.name-iterator) ≡ first_long_attribute l.attributes
