use Rattle.cel_eval.proofs.Decided.{left_error, right_error}
use Rattle.cel_eval.proofs.laws.errors_in_order.Goals as goal

pub returns : goal.returns
returns c = record { left = left_error; right = right_error }
