use Rattle.std.proofs.Common.{length}
use Rattle.client_top.proofs.Asking.{SoFar}
use Rattle.client_top.proofs.asks.read_asks.Given as goal

abbrev pub invariant-lines : goal.invariant-lines
invariant-lines l = SoFar l.workers l.bytes l.rest l.asks.items

abbrev pub decreases-lines : goal.decreases-lines
decreases-lines l = length l.rest
