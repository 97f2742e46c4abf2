use Rattle.grant_journal.proofs.Stands.{settled_now}
use Rattle.grant_journal.proofs.laws.a_crash_leaves_what_was_acknowledged.Goals as goal

pub returns : goal.returns
returns c = settled_now
