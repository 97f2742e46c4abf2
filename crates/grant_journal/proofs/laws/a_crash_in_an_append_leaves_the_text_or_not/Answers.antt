use Rattle.wif_base.proofs.Moments.{leaves-at_end}
use Rattle.grant_journal.specs.JournalBytes.{IsBeforeOrAfter}
use Rattle.grant_journal.proofs.Stands.{before_or_after}
use Rattle.grant_journal.proofs.laws.a_crash_in_an_append_leaves_the_text_or_not.Goals as goal

pub returns-clause-after : goal.returns-clause-after
returns-clause-after c = λ texts text old new run. leaves-at_end old new (IsBeforeOrAfter texts text) run

pub returns-clause-found : goal.returns-clause-found
returns-clause-found c = before_or_after
