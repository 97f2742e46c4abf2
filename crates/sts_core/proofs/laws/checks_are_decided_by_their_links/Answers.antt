use Rattle.sts_core.proofs.Checked.{issued_checks, linked_checks, other_checks}
use Rattle.sts_core.proofs.laws.checks_are_decided_by_their_links.Goals as goal

pub returns-clause-issued : goal.returns-clause-issued
returns-clause-issued c = issued_checks

pub returns-clause-links : goal.returns-clause-links
returns-clause-links c = linked_checks

pub returns-clause-other : goal.returns-clause-other
returns-clause-other c = other_checks
