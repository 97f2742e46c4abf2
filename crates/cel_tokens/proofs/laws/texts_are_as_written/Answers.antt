use Rattle.cel_tokens.proofs.TextForms.{only_written, each_written, exactly_written}
use Rattle.cel_tokens.proofs.laws.texts_are_as_written.Goals as goal

pub returns-clause-only : goal.returns-clause-only
returns-clause-only c = only_written

pub returns-clause-each : goal.returns-clause-each
returns-clause-each c = each_written

pub returns-clause-exact : goal.returns-clause-exact
returns-clause-exact c = exactly_written
