use Rattle.std.proofs.Common.{◌≡◌, ◌++◌, take}
use Rattle.cel_builtins.proofs.lists.joined_lists.Given as goal

abbrev pub invariant-loop-item : goal.invariant-loop-item
invariant-loop-item l = l.both ≡ take l.item-index l.a

abbrev pub invariant-loop-item-2 : goal.invariant-loop-item-2
invariant-loop-item-2 l = l.both ≡ l.a ++ take l.item-index l.b
