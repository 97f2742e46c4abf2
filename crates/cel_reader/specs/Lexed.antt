-- The tokens of a text, as a function.
use Rattle.std.specs.Prelude.{ℕ, zero, suc, ◌+◌, ◌-◌, List, [], ◌∷◌, length, Option, Some, None}
use Rattle.cel_tokens.specs.declared.token.Piece.{Piece}
use Rattle.cel_tokens.specs.declared.token.Lexeme.{Lexeme}
use Rattle.cel_tokens.specs.FirstWord.{word_at}

-- tokens, and where they stop if bytes there form no word
abbrev pub Words : Type 0
Words = List Lexeme × Option ℕ

-- a word that stands at a place, before the words behind it
abbrev pub with_word : ℕ → Piece → Words → Words
with_word at Piece.Blank more = more
with_word at (Piece.Token t) more = (record { at = at; token = t } ∷ more.0, more.1)

-- from a first word on; so many bytes begin with it
abbrev pub from_word : ℕ → ℕ → Option (Piece × List ℕ) → (ℕ → List ℕ → Words) → Words
from_word at size None go = ([], Some at)
from_word at size (Some x) go = with_word at x.0 (go (at + (size - length x.1)) x.1)

-- the words of bytes that begin at a place, so many of them at most
abbrev pub lexed : ℕ → ℕ → List ℕ → Words
lexed zero at text = ([], None)
lexed (suc n) at [] = ([], None)
lexed (suc n) at (b ∷ bs) = from_word at (length (b ∷ bs)) (word_at at (b ∷ bs)) (λ next more. lexed n next more)

-- the words of a text, which are no more than its bytes
abbrev pub words_of : List ℕ → Words
words_of text = lexed (length text) 0 text
