use Rattle.cel_syntax.proofs.Reprinted.{printed_again}
use Rattle.cel_syntax.proofs.laws.print_spells.Goals as goal

pub returns : goal.returns
returns c = printed_again
