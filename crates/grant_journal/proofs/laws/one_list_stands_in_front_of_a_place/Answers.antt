use Rattle.grant_journal.proofs.Finding.{longer_front, one_front, text_in_front}
use Rattle.grant_journal.proofs.laws.one_list_stands_in_front_of_a_place.Goals as goal

pub returns-clause-one : goal.returns-clause-one
returns-clause-one c = one_front

pub returns-clause-front : goal.returns-clause-front
returns-clause-front c = longer_front

pub returns-clause-text : goal.returns-clause-text
returns-clause-text c = text_in_front
