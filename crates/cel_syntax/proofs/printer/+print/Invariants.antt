use Rattle.std.proofs.Common.{◌≡◌, ◌++◌, drop, map, string_bytes}
use Rattle.cel_syntax.specs.Print.{listed, texts_listed, printed, pair_printed}
use Rattle.cel_syntax.proofs.Separated.{joined, text_of}
use Rattle.cel_syntax.proofs.printer.+print.Given as goal

abbrev pub invariant-put_items-loop-item : goal.invariant-put_items-loop-item
invariant-put_items-loop-item l = string_bytes l.out ++ joined l.behind_another (map text_of (drop l.item-index l.items)) ≡ string_bytes l.fn.out ++ listed (map printed l.items)

abbrev pub invariant-put_pairs-loop-pair : goal.invariant-put_pairs-loop-pair
invariant-put_pairs-loop-pair l = string_bytes l.out ++ joined l.behind_another (map pair_printed (drop l.pair-index l.pairs)) ≡ string_bytes l.fn.out ++ texts_listed (map pair_printed l.pairs)
