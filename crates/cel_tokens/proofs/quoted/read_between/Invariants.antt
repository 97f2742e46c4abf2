use Rattle.std.proofs.Common.{◌≡◌, ◌≤◌, ◌-◌, length, drop}
use Rattle.cel_tokens.specs.declared.quoted.Mode.{Mode}
use Rattle.cel_tokens.specs.Words.{with_front, between, next_move}
use Rattle.cel_tokens.proofs.quoted.read_between.Given as goal

abbrev pub invariant-loop-at : goal.invariant-loop-at
invariant-loop-at l = record {
  within : l.at ≤ length l.bytes;
  same : with_front l.value.items (between (next_move l.kind l.quote) l.mode (drop l.at l.bytes)) ≡ between (next_move l.kind l.quote) Mode.Plain l.bytes;
}

abbrev pub decreases-loop-at : goal.decreases-loop-at
decreases-loop-at l = length l.bytes - l.at
