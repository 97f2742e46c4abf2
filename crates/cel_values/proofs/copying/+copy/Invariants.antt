use Rattle.std.proofs.Common.{◌≡◌, take}
use Rattle.cel_values.proofs.copying.+copy.Given as goal

abbrev pub invariant-copy_items-loop-item : goal.invariant-copy_items-loop-item
invariant-copy_items-loop-item l = l.all ≡ take l.item-index l.items

abbrev pub invariant-copy_entries-loop-entry : goal.invariant-copy_entries-loop-entry
invariant-copy_entries-loop-entry l = l.all ≡ take l.entry-index l.entries
