use Rattle.service_journal.proofs.Refusals.{refused_no_journal}
use Rattle.service_journal.proofs.laws.a_file_that_is_refused_stands_for_no_journal.Goals as goal

pub returns : goal.returns
returns c = refused_no_journal
