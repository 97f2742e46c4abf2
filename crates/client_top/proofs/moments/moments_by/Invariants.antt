use Rattle.std.proofs.Common.{◌≡◌, map}
use Rattle.client_top.specs.Asks.{moments_by as by_worker}
use Rattle.client_top.proofs.moments.moments_by.Given as goal

abbrev pub invariant-loop-worker : goal.invariant-loop-worker
invariant-loop-worker l = map (λ list. list.items) l.lists.items ≡ by_worker l.worker l.asks
