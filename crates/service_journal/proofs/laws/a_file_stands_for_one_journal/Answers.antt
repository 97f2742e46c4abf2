use Rattle.service_journal.proofs.Texts.{one_journal}
use Rattle.service_journal.proofs.laws.a_file_stands_for_one_journal.Goals as goal

pub returns : goal.returns
returns c = one_journal
