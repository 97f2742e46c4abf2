use Rattle.std.proofs.Common.{◌≡◌, ◌++◌, ◌∷◌, string_bytes}
use Rattle.std.specs.Str.Iter.{chars_rest}
use Rattle.cel_tokens.specs.Spelling.{quoted_bytes}
use Rattle.cel_tokens.proofs.spelling.put_quoted.Given as goal

abbrev pub invariant-loop-character : goal.invariant-loop-character
invariant-loop-character l =
    string_bytes l.out ++ quoted_bytes (chars_rest l.character-iterator) ≡ string_bytes l.fn.out ++ (34 ∷ quoted_bytes l.fn.text)
