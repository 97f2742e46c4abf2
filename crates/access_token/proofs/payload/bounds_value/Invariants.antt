use Rattle.std.proofs.Common.{◌≡◌, map, take}
use Rattle.serde_json.specs.View.{view}
use Rattle.boundary.specs.Written.{boundary_data}
use Rattle.access_token.proofs.payload.bounds_value.Given as goal

abbrev pub invariant-loop-boundary : goal.invariant-loop-boundary
invariant-loop-boundary l = map view l.list.items ≡ map boundary_data (take l.boundary-index l.bounds)
