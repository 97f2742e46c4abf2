use Rattle.std.proofs.Common.{◌≡◌, ◌<◌, ◌≤◌, true, length, vec_len, sym, ap, ◌∙◌, arith, rules}
use Rattle.std.specs.Vec.{vec_capacity}
use Rattle.base_types.proofs.NamedLemmas.{when_ok}
use Rattle.iam_names.specs.PoolName.{same_pool}
use Rattle.service_view.specs.Pools.{put_pool}
use Rattle.service_view.proofs.PoolLemmas.{put-hit, put-all}
use Rattle.service_view.proofs.pool.Pools.place.Goals as goal

pub returns-then-eq : goal.returns-then-eq
returns-then-eq c =
    let pools = c.loop-index.self-inside.inner.items in
    let same : same_pool c.args.pool.name c.index.result.now.name ≡ true = search rules in
    let within : c.loop-index.index < length pools = search rules in
    sym (put-hit c.args.pool pools c.loop-index.index c.index.result.now within c.index.ensures c.loop-index.invariant.2 same)
    ∙ ap (put_pool c.args.pool) c.loop-index.invariant.0

pub returns : goal.returns
returns c =
    let pools = c.loop-index.self-inside.inner.items in
    let past : length pools ≤ c.loop-index.index = search rules in
    let room : vec_len c.loop-index.self-inside.inner < vec_capacity c.loop-index.self-inside.inner = omega (arith, c.requires, c.loop-index.invariant.1) in
    c.push.ensures.items ∙ when_ok _ _ _ (c.push.ensures.succeeds room)
    ∙ sym (put-all c.args.pool pools c.loop-index.index past c.loop-index.invariant.2)
    ∙ ap (put_pool c.args.pool) c.loop-index.invariant.0
