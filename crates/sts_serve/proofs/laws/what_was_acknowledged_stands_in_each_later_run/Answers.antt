use Rattle.sts_serve.proofs.Kept.{each_goes_on, leads_to}
use Rattle.sts_serve.proofs.laws.what_was_acknowledged_stands_in_each_later_run.Goals as goal

pub returns-clause-recorded : goal.returns-clause-recorded
returns-clause-recorded c = leads_to

pub returns-clause-goes_on : goal.returns-clause-goes_on
returns-clause-goes_on c = each_goes_on
