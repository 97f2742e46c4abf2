use Rattle.link_laws.proofs.Counted.{account_ends, pool_ends}
use Rattle.link_laws.proofs.laws.a_disabled_pool_or_account_ends_its_links.Goals as goal

pub returns-clause-pool : goal.returns-clause-pool
returns-clause-pool c = pool_ends

pub returns-clause-account : goal.returns-clause-account
returns-clause-account c = account_ends
