use Rattle.grant_journal.proofs.Finding.{next_text, no_end, past_limit, too_long}
use Rattle.grant_journal.proofs.laws.each_list_goes_on_with_what_stands_there.Goals as goal

pub returns-clause-next : goal.returns-clause-next
returns-clause-next c = next_text

pub returns-clause-passes_end : goal.returns-clause-passes_end
returns-clause-passes_end c = no_end

pub returns-clause-too_long : goal.returns-clause-too_long
returns-clause-too_long c = too_long

pub returns-clause-past_limit : goal.returns-clause-past_limit
returns-clause-past_limit c = past_limit
