use Rattle.cel_eval.proofs.Decided.{false_left, false_right, true_left, true_right, first_branch, second_branch}
use Rattle.cel_eval.proofs.laws.operands_decide.Goals as goal

pub returns : goal.returns
returns c = record {
  false_left = false_left;
  false_right = false_right;
  true_left = true_left;
  true_right = true_right;
  first_branch = first_branch;
  second_branch = second_branch;
}
