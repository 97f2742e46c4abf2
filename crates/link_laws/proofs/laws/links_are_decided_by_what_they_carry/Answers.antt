use Rattle.links.proofs.ByLists.{allows_by_lists, live_by_lists}
use Rattle.link_laws.proofs.laws.links_are_decided_by_what_they_carry.Goals as goal

pub returns-clause-live : goal.returns-clause-live
returns-clause-live c = live_by_lists

pub returns-clause-allows : goal.returns-clause-allows
returns-clause-allows c = allows_by_lists
