use Rattle.cel_types.proofs.Placed.{counted, of_node}
use Rattle.cel_types.proofs.laws.faults_are_numbered_by_the_text.Goals as goal

pub returns : goal.returns
returns c = record { nodes = counted; stands = of_node }
