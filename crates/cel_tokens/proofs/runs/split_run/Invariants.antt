use Rattle.std.proofs.Common.{◌≡◌, ◌≤◌, ◌-◌, length, take, drop}
use Rattle.cel_tokens.specs.FirstWord.{is_of, while_front}
use Rattle.cel_tokens.proofs.Fronts.{behind}
use Rattle.cel_tokens.proofs.runs.split_run.Given as goal

abbrev pub invariant-loop-at : goal.invariant-loop-at
invariant-loop-at l = record {
  within : l.at ≤ length l.bytes;
  same : behind (take l.at l.bytes) (while_front (is_of l.kind) (drop l.at l.bytes)) ≡ while_front (is_of l.kind) l.bytes;
}

abbrev pub decreases-loop-at : goal.decreases-loop-at
decreases-loop-at l = length l.bytes - l.at
