use Rattle.std.proofs.Common.{◌≡◌, ◌++◌, drop, map}
use Rattle.cel_syntax.specs.MacroFaults.{seen, pair_seen, all_faults, pair_faults}
use Rattle.cel_syntax.proofs.macro_faults.+push_faults.Given as goal

abbrev pub invariant-push_all-loop-item : goal.invariant-push_all-loop-item
invariant-push_all-loop-item l = l.out ++ all_faults (map seen (drop l.item-index l.items)) l.nesting ≡ l.fn.out ++ all_faults (map seen l.items) l.nesting

abbrev pub invariant-push_pairs-loop-pair : goal.invariant-push_pairs-loop-pair
invariant-push_pairs-loop-pair l = l.out ++ pair_faults (map pair_seen (drop l.pair-index l.pairs)) l.nesting ≡ l.fn.out ++ pair_faults (map pair_seen l.pairs) l.nesting
