use Rattle.std.proofs.Common.{◌≡◌, ◌≤◌, drop, Some}
use Rattle.std.specs.Option.{IfSome}
use Rattle.cel_builtins.specs.Durations.{parts_seconds, seconds_behind}
use Rattle.cel_builtins.proofs.durations.parts_seconds.Given as goal

abbrev pub invariant-loop-b : goal.invariant-loop-b
invariant-loop-b l = record {
  value : seconds_behind l.pending (Some l.total) (drop l.b-index l.text) ≡ parts_seconds l.text;
  number : IfSome l.pending (λ n. n ≤ 315576000000);
  total : l.total ≤ 315576000000;
}
