use Rattle.sts_core.proofs.Checked.{step_lawful}
use Rattle.sts_core.proofs.laws.each_step_keeps_the_journal_lawful.Goals as goal

pub returns : goal.returns
returns c = step_lawful
