use Rattle.std.proofs.Common.{refl}
use Rattle.grant_journal.proofs.Finding.{behind_closed, behind_more, behind_size}
use Rattle.grant_journal.proofs.laws.places_give_what_a_file_stands_for.Goals as goal

pub returns-clause-begins : goal.returns-clause-begins
returns-clause-begins c = λ file has. record { place = refl; front = has }

pub returns-clause-goes_on : goal.returns-clause-goes_on
returns-clause-goes_on c = behind_more

pub returns-clause-ends : goal.returns-clause-ends
returns-clause-ends c = behind_closed

pub returns-clause-size : goal.returns-clause-size
returns-clause-size c = behind_size
