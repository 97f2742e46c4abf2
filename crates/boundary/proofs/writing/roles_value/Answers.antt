use Rattle.std.proofs.Common.{◌≡◌, ◌∙◌, ap, map, take_all, arith}
use Rattle.serde_json.specs.View.{view}
use Rattle.serde_json.proofs.Views.{view-Array}
use Rattle.boundary.specs.Written.{role_data}
use Rattle.boundary.proofs.WrittenParts.{array_written}
use Rattle.boundary.proofs.writing.roles_value.Goals as goal

pub returns : goal.returns
returns c =
    let all : map view c.loop-role.values.items ≡ map role_data c.args.roles.now =
    c.loop-role.invariant ∙ ap (map role_data) (take_all c.loop-role.role-index c.args.roles.now (omega arith)) in
    view-Array c.loop-role.values ∙ array_written role_data c.loop-role.values.items c.args.roles.now all
