use Rattle.service_journal.proofs.KeptJournals.{kept_none, kept_fits}
use Rattle.service_journal.proofs.laws.journals_go_on_with_what_fits.Goals as goal

pub returns-clause-begins : goal.returns-clause-begins
returns-clause-begins c = kept_none

pub returns-clause-goes_on : goal.returns-clause-goes_on
returns-clause-goes_on c = kept_fits
