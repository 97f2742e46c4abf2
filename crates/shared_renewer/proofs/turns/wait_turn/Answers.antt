use Rattle.std.proofs.Common.{◌+◌, refl, ap, arith}
use Rattle.shared_renewer.specs.Turns.{SeatState}
use Rattle.shared_renewer.specs.Views.{looked}
use Rattle.shared_renewer.proofs.turns.wait_turn.Goals as goal

pub loop-init : goal.loop-init
loop-init g c = let m = c.args.seat.now.me.0 in (refl, refl, (m.last, m.before, m.steps, refl, omega arith))

pub returns-in-Ok-clause-gained : goal.returns-in-Ok-clause-gained
returns-in-Ok-clause-gained g c =
    let i = c.loop.invariant.2 in
    let n = c.in-Ok.word in
    ((looked n c.loop.seat.me.0, c.loop.seat.me.1), (n, i.0, i.2 + 1, ap (λ (z : SeatState g.row.L.Denot). (looked n z.0, z.1)) i.3, omega (arith, i.4)), c.in-Ok.ensures.gained)
