use Rattle.link_laws.proofs.LinkLaws.{chain_follows, token_follows}
use Rattle.link_laws.proofs.laws.entries_that_follow_change_no_link.Goals as goal

pub returns-clause-chain : goal.returns-clause-chain
returns-clause-chain c = chain_follows

pub returns-clause-token : goal.returns-clause-token
returns-clause-token c = token_follows
