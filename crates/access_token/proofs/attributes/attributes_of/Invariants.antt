use Rattle.access_token.proofs.AttributeSteps.{IsReadBefore}
use Rattle.access_token.proofs.attributes.attributes_of.Given as goal

abbrev pub invariant-loop-name : goal.invariant-loop-name
invariant-loop-name l = IsReadBefore l.members.entries l.attributes l.name-iterator
