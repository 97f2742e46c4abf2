use Rattle.std.proofs.Common.{◌≡◌, map, take}
use Rattle.serde_json.specs.Data.{string}
use Rattle.serde_json.specs.View.{view}
use Rattle.iam_names.specs.PoolName.{pool_text}
use Rattle.access_token.proofs.payload.pools_value.Given as goal

abbrev pub invariant-loop-pool : goal.invariant-loop-pool
invariant-loop-pool l = map view l.list.items ≡ map (λ pool. string (pool_text pool)) (take l.pool-index l.pools)
