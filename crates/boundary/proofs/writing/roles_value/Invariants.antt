use Rattle.std.proofs.Common.{◌≡◌, map, take}
use Rattle.serde_json.specs.View.{view}
use Rattle.boundary.specs.Written.{role_data}
use Rattle.boundary.proofs.writing.roles_value.Given as goal

abbrev pub invariant-loop-role : goal.invariant-loop-role
invariant-loop-role l = map view l.values.items ≡ map role_data (take l.role-index l.roles)
