use Rattle.std.proofs.Common.{◌≡◌, ◌∙◌, ap, map, take_all, arith}
use Rattle.serde_json.specs.Data.{string}
use Rattle.serde_json.specs.View.{view}
use Rattle.serde_json.proofs.Views.{view-Array}
use Rattle.iam_names.specs.PoolName.{pool_text}
use Rattle.boundary.proofs.WrittenParts.{array_written}
use Rattle.access_token.proofs.payload.pools_value.Goals as goal

pub returns : goal.returns
returns c =
    let all : map view c.loop-pool.list.items ≡ map (λ pool. string (pool_text pool)) c.args.pools.now = c.loop-pool.invariant ∙ ap (map (λ pool. string (pool_text pool))) (take_all c.loop-pool.pool-index c.args.pools.now (omega arith)) in
    view-Array c.loop-pool.list ∙ array_written (λ pool. string (pool_text pool)) c.loop-pool.list.items c.args.pools.now all
