use Rattle.sts_core.proofs.Agrees.{agrees_later}
use Rattle.sts_core.proofs.laws.gate_agrees_with_the_chain.Goals as goal

pub returns : goal.returns
returns c = agrees_later
