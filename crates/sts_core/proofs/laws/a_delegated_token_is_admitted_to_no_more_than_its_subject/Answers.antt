use Rattle.sts_core.proofs.Checked.{delegated_checks, delegated_ends}
use Rattle.sts_core.proofs.laws.a_delegated_token_is_admitted_to_no_more_than_its_subject.Goals as goal

pub returns-clause-admitted : goal.returns-clause-admitted
returns-clause-admitted c = delegated_checks

pub returns-clause-ends : goal.returns-clause-ends
returns-clause-ends c = delegated_ends
