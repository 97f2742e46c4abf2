use Rattle.std.proofs.Common.{◌≡◌, take}
use Rattle.derived_facts.proofs.copying.copy_pools.Given as goal

abbrev pub invariant-loop-pool : goal.invariant-loop-pool
invariant-loop-pool l = l.copy ≡ take l.pool-index l.pools
