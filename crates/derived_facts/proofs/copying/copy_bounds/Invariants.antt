use Rattle.std.proofs.Common.{◌≡◌, take}
use Rattle.derived_facts.proofs.copying.copy_bounds.Given as goal

abbrev pub invariant-loop-boundary : goal.invariant-loop-boundary
invariant-loop-boundary l = l.copy ≡ take l.boundary-index l.bounds
