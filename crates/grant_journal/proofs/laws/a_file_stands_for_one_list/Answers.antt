use Rattle.grant_journal.proofs.Unique.{one_list}
use Rattle.grant_journal.proofs.laws.a_file_stands_for_one_list.Goals as goal

pub returns : goal.returns
returns c = one_list
