use Rattle.std.proofs.Common.{◌≡◌, ◌++◌, drop}
use Rattle.serde_json.specs.View.{items_view, members_view}
use Rattle.cel_values.specs.Values.{values_of, entries_of}
use Rattle.cel_values.proofs.conversion.+from_json.Given as goal

abbrev pub invariant-from_items-loop-item : goal.invariant-from_items-loop-item
invariant-from_items-loop-item l =
    values_of (items_view l.item-items) ≡ l.list ++ values_of (items_view (drop l.item-index l.item-items))

abbrev pub invariant-from_members-loop-name : goal.invariant-from_members-loop-name
invariant-from_members-loop-name l =
    entries_of (members_view l.members.entries) ≡ l.entries ++ entries_of (members_view l.name-iterator)
