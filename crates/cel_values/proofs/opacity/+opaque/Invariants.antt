use Rattle.std.proofs.Common.{◌≡◌, drop, map}
use Rattle.cel_values.specs.Opacity.{any_of, holds_opaque, entry_holds_opaque}
use Rattle.cel_values.proofs.opacity.+opaque.Given as goal

abbrev pub invariant-any_opaque-loop-item : goal.invariant-any_opaque-loop-item
invariant-any_opaque-loop-item l = any_of (map holds_opaque (drop l.item-index l.items)) ≡ any_of (map holds_opaque l.items)

abbrev pub invariant-any_entry_opaque-loop-entry : goal.invariant-any_entry_opaque-loop-entry
invariant-any_entry_opaque-loop-entry l = any_of (map entry_holds_opaque (drop l.entry-index l.entries)) ≡ any_of (map entry_holds_opaque l.entries)
