use Rattle.std.proofs.Common.{arith}
use Rattle.iam_names.proofs.CutLemmas.{cut_at-split}
use Rattle.entry_texts.proofs.provider.cut_at_slash.Goals as goal

pub returns : goal.returns
returns c = cut_at-split 47 c.args.text.now c.split_once.result c.split_once.ensures.cases (omega arith)
