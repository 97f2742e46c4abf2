use Rattle.std.proofs.Common.{◌≡◌, take}
use Rattle.std.specs.String.{string_bytes}
use Rattle.cel_builtins.specs.Texts.{joined}
use Rattle.cel_builtins.proofs.pieces.joined.Given as goal

abbrev pub invariant-loop-index : goal.invariant-loop-index
invariant-loop-index l = string_bytes l.all ≡ joined l.separator (take l.index l.texts)
