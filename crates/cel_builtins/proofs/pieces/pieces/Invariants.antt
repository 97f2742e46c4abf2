use denote.Shadow.{shadow}
use denote.Text.{Utf8}
use Rattle.std.proofs.Common.{◌≡◌, ◌++◌, map, length}
use Rattle.cel_builtins.specs.Texts.{pieces, text_value}
use Rattle.cel_builtins.proofs.pieces.pieces.Given as goal

abbrev pub invariant-loop-piece : goal.invariant-loop-piece
invariant-loop-piece l = record {
  value : l.all ++ map text_value (pieces l.separator l.rest) ≡ map text_value (pieces l.separator l.text);
  text : shadow (Utf8 l.rest);
}

abbrev pub decreases-loop-piece : goal.decreases-loop-piece
decreases-loop-piece l = length l.rest
