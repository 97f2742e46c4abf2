use Rattle.std.proofs.Common.{◌≡◌, drop, map, sum}
use Rattle.cel_values.specs.Weight.{weight, entry_weight, room_behind}
use Rattle.cel_values.proofs.weight.+weigh.Given as goal

abbrev pub invariant-room_behind_items-loop-item : goal.invariant-room_behind_items-loop-item
invariant-room_behind_items-loop-item l = room_behind l.room (sum (map weight (drop l.item-index l.items))) ≡ room_behind l.initial.room (sum (map weight l.items))

abbrev pub invariant-room_behind_entries-loop-entry : goal.invariant-room_behind_entries-loop-entry
invariant-room_behind_entries-loop-entry l = room_behind l.room (sum (map entry_weight (drop l.entry-index l.entries))) ≡ room_behind l.initial.room (sum (map entry_weight l.entries))
