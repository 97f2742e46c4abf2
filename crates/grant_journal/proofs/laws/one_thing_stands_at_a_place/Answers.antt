use Rattle.grant_journal.proofs.Finding.{closed_no_text, closed_not_bad, one_rule, one_text, text_not_bad}
use Rattle.grant_journal.proofs.laws.one_thing_stands_at_a_place.Goals as goal

pub returns-clause-text : goal.returns-clause-text
returns-clause-text c = one_text

pub returns-clause-no_text : goal.returns-clause-no_text
returns-clause-no_text c = closed_no_text

pub returns-clause-not_bad : goal.returns-clause-not_bad
returns-clause-not_bad c = closed_not_bad

pub returns-clause-good : goal.returns-clause-good
returns-clause-good c = text_not_bad

pub returns-clause-rule : goal.returns-clause-rule
returns-clause-rule c = one_rule
