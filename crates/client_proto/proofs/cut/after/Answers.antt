use Rattle.iam_names.proofs.CutLemmas.{after-stripped}
use Rattle.client_proto.proofs.cut.after.Goals as goal

pub returns : goal.returns
returns c = after-stripped c.args.front.now c.args.text.now c.strip_prefix.result c.strip_prefix.ensures.cases
