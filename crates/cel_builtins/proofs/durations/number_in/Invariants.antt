use Rattle.std.proofs.Common.{◌≡◌, ◌≤◌, drop}
use Rattle.cel_builtins.specs.Durations.{number_in, number_behind}
use Rattle.cel_builtins.proofs.durations.number_in.Given as goal

abbrev pub invariant-loop-b : goal.invariant-loop-b
invariant-loop-b l = record {
  value : number_behind l.n (drop l.b-index l.digits) ≡ number_in l.digits;
  bound : l.n ≤ 9223372036854775808;
}
