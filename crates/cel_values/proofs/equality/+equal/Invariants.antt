use Rattle.std.proofs.Common.{◌≡◌, drop, map}
use Rattle.cel_values.specs.Equality.{all_equal, equal, entry_equal}
use Rattle.cel_values.proofs.equality.+equal.Given as goal

abbrev pub invariant-equal_items-loop-index : goal.invariant-equal_items-loop-index
invariant-equal_items-loop-index l = all_equal (map equal (drop l.index l.a)) (drop l.index l.b) ≡ all_equal (map equal l.a) l.b

abbrev pub invariant-equal_entries-loop-index : goal.invariant-equal_entries-loop-index
invariant-equal_entries-loop-index l = all_equal (map entry_equal (drop l.index l.a)) (drop l.index l.b) ≡ all_equal (map entry_equal l.a) l.b
