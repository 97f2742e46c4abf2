use Rattle.service_journal.proofs.Texts.{texts-push, journal_size-push}
use Rattle.service_journal.proofs.laws.journals_grow_by_a_record.Goals as goal

pub returns-clause-texts : goal.returns-clause-texts
returns-clause-texts c = texts-push

pub returns-clause-size : goal.returns-clause-size
returns-clause-size c = journal_size-push
