use Rattle.std.proofs.Common.{◌≡◌, ◌++◌, map}
use Rattle.base_types.specs.Named.{by_bytes}
use Rattle.pools.specs.Environments.{attribute_entry}
use Rattle.pools.proofs.environment.put_attributes.Given as goal

abbrev pub invariant-loop-name : goal.invariant-loop-name
invariant-loop-name l = l.entries ++ map attribute_entry (by_bytes l.name-iterator) ≡ l.fn.entries ++ map attribute_entry l.attributes
