use Rattle.std.proofs.Common.{◌≡◌, [], take}
use Rattle.wif_base.specs.Replay.{ranges, is_inside}
use Rattle.wif_base.proofs.mem_disk.is_pending.Given as goal

abbrev pub invariant-loop-k : goal.invariant-loop-k
invariant-loop-k l = is_inside (ranges [] l.calls) l.place ≡ is_inside (ranges [] (take l.k l.calls)) l.place
