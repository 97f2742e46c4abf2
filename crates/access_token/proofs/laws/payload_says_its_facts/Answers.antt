use Rattle.access_token.proofs.Says.{text_back, text_only}
use Rattle.access_token.proofs.laws.payload_says_its_facts.Goals as goal

pub returns-clause-says : goal.returns-clause-says
returns-clause-says c = text_back

pub returns-clause-no_other : goal.returns-clause-no_other
returns-clause-no_other c = text_only
