use Rattle.client_top.proofs.ByWorker.{read_few, read_range}
use Rattle.client_top.proofs.ready.read_ready.Goals as goal

pub returns-in-Ok-clause-few : goal.returns-in-Ok-clause-few
returns-in-Ok-clause-few g c = read_few c.args.workers _ _ c.in-Ok.moments.items c.in-Ok.ensures.moments c.requires.1

pub returns-in-Ok-clause-range : goal.returns-in-Ok-clause-range
returns-in-Ok-clause-range g c = read_range c.args.workers _ _ c.in-Ok.moments.items c.in-Ok.ensures.moments
