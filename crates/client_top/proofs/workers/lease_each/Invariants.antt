use Rattle.std.proofs.Common.{take}
use Rattle.client_top.proofs.Loops.{AreLeased}
use Rattle.client_top.proofs.workers.lease_each.Given as goal

abbrev pub invariant-loop-at : goal.invariant-loop-at
invariant-loop-at g l = AreLeased l.fn.pass l.pass (take l.at-index l.moments) l.outcomes.items
