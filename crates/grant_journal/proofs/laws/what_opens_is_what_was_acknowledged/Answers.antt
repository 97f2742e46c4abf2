use Rattle.grant_journal.proofs.Stands.{acknowledged}
use Rattle.grant_journal.proofs.laws.what_opens_is_what_was_acknowledged.Goals as goal

pub returns : goal.returns
returns c = acknowledged
