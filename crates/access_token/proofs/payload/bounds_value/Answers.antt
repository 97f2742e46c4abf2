use Rattle.std.proofs.Common.{◌≡◌, ◌∙◌, ap, map, take_all, arith}
use Rattle.serde_json.specs.View.{view}
use Rattle.serde_json.proofs.Views.{view-Array}
use Rattle.boundary.specs.Written.{boundary_data}
use Rattle.boundary.proofs.WrittenParts.{array_written}
use Rattle.access_token.proofs.payload.bounds_value.Goals as goal

pub returns : goal.returns
returns c =
    let bounds = c.args.bounds.now in
    let all : map view c.loop-boundary.list.items ≡ map boundary_data bounds =
    c.loop-boundary.invariant ∙ ap (map boundary_data) (take_all c.loop-boundary.boundary-index bounds (omega arith)) in
    view-Array c.loop-boundary.list ∙ array_written boundary_data c.loop-boundary.list.items bounds all
