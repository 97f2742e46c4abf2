use Rattle.grant_journal.proofs.Finding.{front_there, gate_there, marker_there, text_there}
use Rattle.grant_journal.proofs.laws.a_file_shows_what_it_stands_for.Goals as goal

pub returns-clause-begins : goal.returns-clause-begins
returns-clause-begins c = marker_there

pub returns-clause-front : goal.returns-clause-front
returns-clause-front c = front_there

pub returns-clause-text : goal.returns-clause-text
returns-clause-text c = text_there

pub returns-clause-ends : goal.returns-clause-ends
returns-clause-ends c = gate_there
