use Rattle.std.proofs.Common.{◌≡◌, drop}
use Rattle.cel_syntax.specs.MacroFaults.{least}
use Rattle.cel_syntax.proofs.macro_faults.least.Given as goal

abbrev pub invariant-loop-fault : goal.invariant-loop-fault
invariant-loop-fault l = least l.best (drop l.fault-index l.faults) ≡ least l.fn.first l.faults
