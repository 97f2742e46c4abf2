use Rattle.grant_journal.proofs.Stands.{sync_settles}
use Rattle.grant_journal.proofs.laws.a_sync_settles_a_journal.Goals as goal

pub returns : goal.returns
returns c = sync_settles
