use Rattle.std.proofs.Common.{◌≡◌}
use Rattle.shared_renewer.specs.Turns.{OnlyLooked}
use Rattle.shared_renewer.proofs.turns.wait_turn.Given as goal

abbrev pub invariant-loop : goal.invariant-loop
invariant-loop g l = (l.seat.table_id ≡ l.fn.seat.table_id) × (l.seat.id ≡ l.fn.seat.id) × OnlyLooked l.fn.seat.me l.seat.me
