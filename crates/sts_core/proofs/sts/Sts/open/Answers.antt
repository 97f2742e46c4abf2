use Rattle.sts_core.proofs.Opened.{few_of, inside_of}
use Rattle.sts_core.proofs.sts.Sts.open.Goals as goal

pub resume-requires-clause-inside : goal.resume-requires-clause-inside
resume-requires-clause-inside g c = inside_of _ _ _ _ _ (c.in-Ok-open_on.ensures.opens c.args.config.now c.in-Ok.ensures).0.journal

pub resume-requires-clause-few : goal.resume-requires-clause-few
resume-requires-clause-few g c = few_of _ _ _ _ _ (c.in-Ok-open_on.ensures.opens c.args.config.now c.in-Ok.ensures).0.journal
