use Rattle.sts_serve.proofs.Kept.{each_lawful}
use Rattle.sts_serve.proofs.laws.each_journal_of_a_run_is_lawful.Goals as goal

pub returns : goal.returns
returns c = each_lawful
