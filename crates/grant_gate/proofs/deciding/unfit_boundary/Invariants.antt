use Rattle.std.proofs.Common.{◌≡◌, ◌+◌, drop}
use Rattle.std.specs.Prelude.{option_map}
use Rattle.grant_gate.specs.Decision.{boundary_holds, place_failing}
use Rattle.grant_gate.proofs.deciding.unfit_boundary.Given as goal

abbrev pub invariant-loop-place : goal.invariant-loop-place
invariant-loop-place l =
    place_failing (boundary_holds l.view.content l.permission l.resource l.now) l.bounds
    ≡ option_map (λ rest. l.place + rest) (place_failing (boundary_holds l.view.content l.permission l.resource l.now) (drop l.place l.bounds))
