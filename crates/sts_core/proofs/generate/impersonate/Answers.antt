use Rattle.sts_core.proofs.Endings.{prepared_ends}
use Rattle.sts_core.proofs.generate.impersonate.Goals as goal

pub generated-reply-requires : goal.generated-reply-requires
generated-reply-requires c = prepared_ends c.args.state.now.content c.args.entry c.in-Ok.prepared c.requires.form c.in-Ok.ensures.prepared
