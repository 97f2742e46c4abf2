use Rattle.std.proofs.Common.{◌≡◌}
use Rattle.client_threads.proofs.threads.seen_busy.Given as goal

abbrev pub invariant-loop : goal.invariant-loop
invariant-loop g l = l.pass.table ≡ l.fn.pass.table
