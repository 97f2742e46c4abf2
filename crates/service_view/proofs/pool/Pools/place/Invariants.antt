use Rattle.std.proofs.Common.{◌≡◌, ◌++◌, ◌-◌, take, drop, vec_len}
use Rattle.std.specs.Vec.{vec_capacity}
use Rattle.service_view.specs.Pools.{put_pool}
use Rattle.service_view.proofs.pool.Pools.place.Given as goal

abbrev pub invariant-loop-index : goal.invariant-loop-index
invariant-loop-index l =
    (l.self-inside.inner.items ≡ l.fn.self.pools) × (vec_capacity l.self-inside.inner - vec_len l.self-inside.inner ≡ l.fn.self.spare)
    × (put_pool l.pool l.self-inside.inner.items ≡ take l.index l.self-inside.inner.items ++ put_pool l.pool (drop l.index l.self-inside.inner.items))
