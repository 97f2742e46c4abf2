-- Texts as they are written: what may stand between the quotes, piece by piece, and what the pieces stand for.
use Rattle.std.specs.Prelude.{◌≡◌, ◌≢◌, ℕ, List, [], ◌∷◌, ◌++◌, length, true, false, encode_utf8, ⊤, ◌⊎◌}
use Rattle.std.specs.List.{flat_map, AllByRecursion}
use Rattle.cel_tokens.specs.declared.token.Literal.{Literal}
use Rattle.cel_tokens.specs.declared.token.Token.{Token}
use Rattle.cel_tokens.specs.declared.token.Lexeme.{Lexeme}
use Rattle.cel_tokens.specs.Words.{within, is_hex, is_quote, is_line_end, all_bytes, hex_number}

-- the escapes of one byte
pub data Escape : Type 0 where
  backslash : Escape
  single_quote : Escape
  double_quote : Escape
  line_feed : Escape
  carriage_return : Escape
  tab : Escape

-- the byte behind the backslash
abbrev pub escape_letter : Escape → ℕ
escape_letter backslash = 92
escape_letter single_quote = 39
escape_letter double_quote = 34
escape_letter line_feed = 110
escape_letter carriage_return = 114
escape_letter tab = 116

-- the byte that an escape stands for
abbrev pub escape_value : Escape → ℕ
escape_value backslash = 92
escape_value single_quote = 39
escape_value double_quote = 34
escape_value line_feed = 10
escape_value carriage_return = 13
escape_value tab = 9

-- a piece of a text between quotes
pub data TextPiece : Type 0 where
  -- a byte that stands for itself
  plain : ℕ → TextPiece
  escape : Escape → TextPiece
  -- four hexadecimal digits behind `\u`
  code_point : ℕ → ℕ → ℕ → ℕ → TextPiece

-- the code point that four hexadecimal digits name
abbrev pub point_value : ℕ → ℕ → ℕ → ℕ → ℕ
point_value a b c d = hex_number 0 (a ∷ b ∷ c ∷ d ∷ [])

-- a byte that may stand for itself between these quotes
pub record IsOrdinary (quote b : ℕ) : Type 0 where
  pub no_quote : b ≢ quote
  pub no_line_end : is_line_end b ≡ false

-- a piece that may stand between these quotes: no plain byte is a backslash, and no code point is a surrogate
abbrev pub MayStand : ℕ → TextPiece → Type 0
MayStand quote (plain b) = IsOrdinary quote b × (b ≢ 92)
MayStand quote (escape e) = ⊤
MayStand quote (code_point a b c d) = (all_bytes is_hex (a ∷ b ∷ c ∷ d ∷ []) ≡ true) × (within 0xd800 0xdfff (point_value a b c d) ≡ false)

-- how a piece is written
abbrev pub written : TextPiece → List ℕ
written (plain b) = b ∷ []
written (escape e) = 92 ∷ escape_letter e ∷ []
written (code_point a b c d) = 92 ∷ 117 ∷ a ∷ b ∷ c ∷ d ∷ []

-- what a piece stands for
abbrev pub denoted : TextPiece → List ℕ
denoted (plain b) = b ∷ []
denoted (escape e) = escape_value e ∷ []
denoted (code_point a b c d) = encode_utf8 (point_value a b c d)

-- a quote, pieces, and the same quote; the value is what the pieces stand for, one after another
pub record IsQuoted (word value : List ℕ) : Type 0 where
  pub quote : ℕ
  pub pieces : List TextPiece
  pub is_quoted : is_quote quote ≡ true
  pub stand : AllByRecursion (MayStand quote) pieces
  pub word_is : word ≡ quote ∷ (flat_map written pieces ++ (quote ∷ []))
  pub value_is : value ≡ flat_map denoted pieces

-- `r`, a quote, bytes that stand for themselves, and the same quote
pub record IsRaw (word value : List ℕ) : Type 0 where
  pub quote : ℕ
  pub is_quoted : is_quote quote ≡ true
  pub stand : AllByRecursion (IsOrdinary quote) value
  pub word_is : word ≡ 114 ∷ quote ∷ (value ++ (quote ∷ []))

-- the word is a text of this value
abbrev pub IsTextWord : List ℕ → List ℕ → Type 0
IsTextWord word value = IsQuoted word value ⊎ IsRaw word value

-- a text stands at a place in another
pub record StandsAt (text : List ℕ) (at : ℕ) (value : List ℕ) : Type 0 where
  pub before : List ℕ
  pub word : List ℕ
  pub after : List ℕ
  pub front : text ≡ before ++ (word ++ after)
  pub place : length before ≡ at
  pub is : IsTextWord word value

-- a token that is a text stands at its place, and has just the value that is written there
abbrev pub IsWrittenAt : List ℕ → ℕ → Token → Type 0
IsWrittenAt text at (Token.Literal (Literal.Text value)) = StandsAt text at value
IsWrittenAt text at t = ⊤

-- the same of a token with its place
abbrev pub IsAsWritten : List ℕ → Lexeme → Type 0
IsAsWritten text l = IsWrittenAt text l.at l.token
