-- The tokens of a text.
use Rattle.std.specs.Prelude.{ℕ, ◌+◌, ◌<◌, List, [], ◌∷◌, length, Option, Some, None}
use Rattle.cel_tokens.specs.declared.token.Token.{Token}
use Rattle.cel_tokens.specs.declared.token.Piece.{Piece}
use Rattle.cel_tokens.specs.declared.token.Lexeme.{Lexeme}
use Rattle.cel_tokens.specs.Words.{IsFirstWord, HasNoWord}

-- the tokens of a text that begins at a place, word after word, each the longest that fits; they end with the text,
-- or stop at a place where bytes form no word
pub data Lexes : ℕ → List ℕ → List Lexeme → Option ℕ → Type 0 where
  ended : {at : ℕ} → Lexes at [] [] None
  stopped : {at : ℕ} {text : List ℕ} → 0 < length text → HasNoWord at text → Lexes at text [] (Some at)
  blank : {at : ℕ} {text word rest : List ℕ} {tokens : List Lexeme} {stop : Option ℕ} →
      IsFirstWord at text word rest Piece.Blank → Lexes (at + length word) rest tokens stop → Lexes at text tokens stop
  token : {at : ℕ} {text word rest : List ℕ} {t : Token} {tokens : List Lexeme} {stop : Option ℕ} →
      IsFirstWord at text word rest (Piece.Token t) → Lexes (at + length word) rest tokens stop → Lexes at text (record { at = at; token = t } ∷ tokens) stop
