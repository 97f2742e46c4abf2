use Rattle.base_types.specs.Named.{by_bytes}
use Rattle.pools.proofs.Attributes.{IsMappedBefore}
use Rattle.pools.proofs.mapping.attributes_of.Given as goal

abbrev pub invariant-loop-name : goal.invariant-loop-name
invariant-loop-name l = IsMappedBefore l.attributes l.env l.texts (by_bytes l.name-iterator)
