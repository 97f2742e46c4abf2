use Rattle.cel_eval.proofs.FreeNames.{agreeing, behind, unused}
use Rattle.cel_eval.proofs.laws.free_names_decide.Goals as goal

pub returns : goal.returns
returns c = record { agreeing = agreeing; behind = behind; unused = unused }
