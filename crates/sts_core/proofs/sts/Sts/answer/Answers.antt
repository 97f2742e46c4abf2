use Rattle.service_journal.specs.Journals.{texts_of}
use Rattle.sts_core.proofs.Carrying.{stands_still}
use Rattle.sts_core.proofs.sts.Sts.answer.Goals as goal

pub returns-in-Introspect-clause-any_moment : goal.returns-in-Introspect-clause-any_moment
returns-in-Introspect-clause-any_moment g c = λ config journal stands. stands_still (texts_of journal) _ _ _ stands.settled

pub returns-in-Check-clause-any_moment : goal.returns-in-Check-clause-any_moment
returns-in-Check-clause-any_moment g c = λ config journal stands. stands_still (texts_of journal) _ _ _ stands.settled
