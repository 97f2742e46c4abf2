use Rattle.std.proofs.Common.{◌≡◌, ◌∙◌, ap, map, take_all, arith}
use Rattle.serde_json.specs.View.{view}
use Rattle.serde_json.proofs.Views.{view-Array}
use Rattle.boundary.proofs.WrittenParts.{array_written}
use Rattle.command_texts.specs.Written.{binding_data}
use Rattle.command_texts.proofs.binding.bindings_value.Goals as goal

pub returns : goal.returns
returns c =
    let all : map view c.loop-binding.values.items ≡ map binding_data c.args.bindings.now =
    c.loop-binding.invariant ∙ ap (map binding_data) (take_all c.loop-binding.binding-index c.args.bindings.now (omega arith)) in
    view-Array c.loop-binding.values ∙ array_written binding_data c.loop-binding.values.items c.args.bindings.now all
