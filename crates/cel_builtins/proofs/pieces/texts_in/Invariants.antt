use Rattle.std.proofs.Common.{◌≡◌, ◌++◌, drop, Ok}
use Rattle.cel_builtins.specs.Outcomes.{◌>>=◌}
use Rattle.cel_builtins.specs.Texts.{texts_in}
use Rattle.cel_builtins.proofs.pieces.texts_in.Given as goal

abbrev pub invariant-loop-item : goal.invariant-loop-item
invariant-loop-item l = (texts_in (drop l.item-index l.items) >>= λ ts. Ok (l.texts ++ ts)) ≡ texts_in l.items
