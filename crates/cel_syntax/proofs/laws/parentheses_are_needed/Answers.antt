use Rattle.cel_syntax.proofs.Reprinted.{fewest_parentheses, pair_needed}
use Rattle.cel_syntax.proofs.laws.parentheses_are_needed.Goals as goal

pub returns-clause-fewest : goal.returns-clause-fewest
returns-clause-fewest c = fewest_parentheses

pub returns-clause-needed : goal.returns-clause-needed
returns-clause-needed c = pair_needed
