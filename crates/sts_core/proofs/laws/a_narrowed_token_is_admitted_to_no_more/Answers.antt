use Rattle.sts_core.proofs.Checked.{narrowed_checks, narrowed_ends}
use Rattle.sts_core.proofs.laws.a_narrowed_token_is_admitted_to_no_more.Goals as goal

pub returns-clause-admitted : goal.returns-clause-admitted
returns-clause-admitted c = narrowed_checks

pub returns-clause-ends : goal.returns-clause-ends
returns-clause-ends c = narrowed_ends
