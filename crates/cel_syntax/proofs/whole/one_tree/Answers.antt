use Rattle.cel_syntax.proofs.Parsed.{one_expr}
use Rattle.cel_syntax.proofs.whole.one_tree.Goals as goal

pub returns : goal.returns
returns c = one_expr
