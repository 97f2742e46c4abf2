use Rattle.base_types.specs.Named.{by_bytes}
use Rattle.derived_facts.proofs.Attributes.{IsCopiedBefore}
use Rattle.derived_facts.proofs.copying.copy_attributes.Given as goal

abbrev pub invariant-loop-name : goal.invariant-loop-name
invariant-loop-name l = IsCopiedBefore l.attributes l.copy (by_bytes l.name-iterator)
