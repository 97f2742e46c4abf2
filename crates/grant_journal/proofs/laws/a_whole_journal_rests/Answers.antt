use Rattle.grant_journal.proofs.Wholes.{to_rests, to_whole}
use Rattle.grant_journal.proofs.laws.a_whole_journal_rests.Goals as goal

pub returns-clause-rests : goal.returns-clause-rests
returns-clause-rests c = to_rests

pub returns-clause-whole : goal.returns-clause-whole
returns-clause-whole c = to_whole
