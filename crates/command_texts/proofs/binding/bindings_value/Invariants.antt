use Rattle.std.proofs.Common.{◌≡◌, map, take}
use Rattle.serde_json.specs.View.{view}
use Rattle.command_texts.specs.Written.{binding_data}
use Rattle.command_texts.proofs.binding.bindings_value.Given as goal

abbrev pub invariant-loop-binding : goal.invariant-loop-binding
invariant-loop-binding l = map view l.values.items ≡ map binding_data (take l.binding-index l.bindings)
