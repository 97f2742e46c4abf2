use Rattle.link_laws.proofs.Counted.{parent_admits, parent_allows, subject_admits, those_live, those_outlive}
use Rattle.link_laws.proofs.laws.no_link_does_more_than_it_was_made_from.Goals as goal

pub returns-clause-live : goal.returns-clause-live
returns-clause-live c = those_live

pub returns-clause-expiry : goal.returns-clause-expiry
returns-clause-expiry c = those_outlive

pub returns-clause-narrowed : goal.returns-clause-narrowed
returns-clause-narrowed c = parent_admits

pub returns-clause-delegated : goal.returns-clause-delegated
returns-clause-delegated c = subject_admits

pub returns-clause-impersonated : goal.returns-clause-impersonated
returns-clause-impersonated c = parent_allows
