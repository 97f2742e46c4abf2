use Rattle.std.proofs.Common.{◌≡◌, drop}
use Rattle.service_view.specs.Pools.{disabled_at}
use Rattle.service_view.proofs.pool.Pools.disabled.Given as goal

abbrev pub invariant-loop-pool : goal.invariant-loop-pool
invariant-loop-pool l = disabled_at l.name l.self.pools ≡ disabled_at l.name (drop l.pool-index l.pool-items)
