use Rattle.std.proofs.Common.{◌≡◌, ◌∙◌, List, ap, map, take_all, arith}
use Rattle.serde_json.specs.Data.{Data, array, string}
use Rattle.serde_json.specs.View.{view, items_of}
use Rattle.serde_json.proofs.Views.{view-Array}
use Rattle.command_texts.proofs.permission.permissions_value.Goals as goal

pub returns : goal.returns
returns c =
    let all : map view c.loop-permission.values.items ≡ map string c.args.permissions.now =
    c.loop-permission.invariant ∙ ap (map string) (take_all c.loop-permission.permission-index c.args.permissions.now (omega arith)) in
    view-Array c.loop-permission.values ∙ ap (λ (ds : List Data). array (items_of ds)) all
