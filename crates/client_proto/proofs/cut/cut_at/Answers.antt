use Rattle.iam_names.proofs.CutLemmas.{cut_at-split}
use Rattle.client_proto.proofs.cut.cut_at.Goals as goal

pub returns : goal.returns
returns c = cut_at-split c.args.sign c.args.text.now c.split_once.result c.split_once.ensures.cases c.requires
