use Rattle.std.proofs.Common.{◌≡◌, ◌++◌, drop, map, false, string_bytes}
use Rattle.cel_lines.specs.ValueText.{separated, value_text, entry_text}
use Rattle.cel_lines.proofs.value_text.+value.Given as goal

abbrev pub invariant-put_items-loop-item : goal.invariant-put_items-loop-item
invariant-put_items-loop-item l = string_bytes l.out ++ separated l.behind_another (map value_text (drop l.item-index l.items)) ≡ string_bytes l.fn.out ++ separated false (map value_text l.items)

abbrev pub invariant-put_entries-loop-entry : goal.invariant-put_entries-loop-entry
invariant-put_entries-loop-entry l = string_bytes l.out ++ separated l.behind_another (map entry_text (drop l.entry-index l.entries)) ≡ string_bytes l.fn.out ++ separated false (map entry_text l.entries)
