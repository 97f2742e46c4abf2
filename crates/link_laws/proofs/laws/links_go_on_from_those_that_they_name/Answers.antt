use Rattle.link_laws.proofs.LinkLaws.{delegate_goes_on, impersonate_goes_on, narrow_goes_on}
use Rattle.link_laws.proofs.laws.links_go_on_from_those_that_they_name.Goals as goal

pub returns-clause-narrowing : goal.returns-clause-narrowing
returns-clause-narrowing c = narrow_goes_on

pub returns-clause-impersonation : goal.returns-clause-impersonation
returns-clause-impersonation c = impersonate_goes_on

pub returns-clause-delegation : goal.returns-clause-delegation
returns-clause-delegation c = delegate_goes_on
