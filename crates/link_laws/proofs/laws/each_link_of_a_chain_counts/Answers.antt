use Rattle.link_laws.proofs.Counted.{each_allows, each_lives}
use Rattle.link_laws.proofs.laws.each_link_of_a_chain_counts.Goals as goal

pub returns-clause-live : goal.returns-clause-live
returns-clause-live c = each_lives

pub returns-clause-allows : goal.returns-clause-allows
returns-clause-allows c = each_allows
