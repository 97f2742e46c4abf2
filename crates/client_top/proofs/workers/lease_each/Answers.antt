use Rattle.std.proofs.Common.{get_or, take}
use Rattle.std.proofs.lemmas.List.{take_more}
use Rattle.client_top.proofs.Loops.{one_leased}
use Rattle.client_top.proofs.workers.lease_each.Goals as goal

pub loop-at-preserved : goal.loop-at-preserved
loop-at-preserved g c =
    let moments = c.args.moments.now in
    let i = c.loop-at.at-index in
    let e = c.in_ok-outcome.ensures in
    let more = one_leased c.args.pass.now c.loop-at.pass c.lease_one.new.pass (take i moments) c.loop-at.outcomes.items (get_or moments i 0)
    c.in_ok-outcome.outcome c.loop-at.invariant e.table e.lent e.outcome e.lost in
    rw (take_more moments i 0 c.loop-at-test.true, c.in_ok-push.ensures.items) more
