use Rattle.sts_core.proofs.Agrees.{carries_its_facts}
use Rattle.sts_core.proofs.laws.a_token_carries_the_facts_of_its_link.Goals as goal

pub returns : goal.returns
returns c = carries_its_facts
