use Rattle.cel_builtins.proofs.Cuts.{cut_result}
use Rattle.cel_builtins.proofs.texts.cut_around.Goals as goal

pub returns : goal.returns
returns c = cut_result c.args.part.now c.args.text.now c.split_once.result c.split_once.ensures.cases
