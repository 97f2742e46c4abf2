-- The first word of a text, as a function.
use Rattle.std.specs.Prelude.{ℕ, List, [], ◌∷◌, Bool, nat_eq, if◌then◌else◌, Option, Some, None}
use Rattle.cel_values.specs.declared.expr.BinaryOp.TheVariants.{Div}
use Rattle.cel_tokens.specs.declared.token.Token.{Token}
use Rattle.cel_tokens.specs.declared.token.Piece.{Piece}
use Rattle.cel_tokens.specs.declared.quoted.Mode.{Mode}
use Rattle.cel_tokens.specs.declared.quoted.TextKind.{TextKind}
use Rattle.cel_tokens.specs.declared.runs.ByteKind.{ByteKind}
use Rattle.cel_tokens.specs.Words.{is_name_byte, is_digit, is_hex, is_in_line, is_letter, is_quote, is_blank, between, next_move, word_token, decimal_token, hex_token, text_token, one_sign, two_sign, IsFirstWord, HasNoWord}

-- which bytes are of a kind
abbrev pub is_of : ByteKind → ℕ → Bool
is_of ByteKind.NameByte = is_name_byte
is_of ByteKind.Digit = is_digit
is_of ByteKind.Hex = is_hex
is_of ByteKind.InLine = is_in_line

-- the longest front of bytes that pass a test, and the rest
abbrev pub while_front : (ℕ → Bool) → List ℕ → List ℕ × List ℕ
while_front p [] = ([], [])
while_front p (b ∷ bs) = if p b then (b ∷ (while_front p bs).0, (while_front p bs).1) else ([], b ∷ bs)

-- the bytes of a raw text behind its `r`, and what follows it
abbrev pub raw_at : List ℕ → Option (List ℕ × List ℕ)
raw_at [] = None
raw_at (q ∷ bs) = if is_quote q then between (next_move TextKind.Raw q) Mode.Plain bs else None

-- the digits behind `0x`, and what follows them
abbrev pub hex_at : List ℕ → Option (List ℕ × List ℕ)
hex_at [] = None
hex_at (x ∷ []) = None
hex_at (x ∷ h ∷ bs) = if nat_eq x 120 then (if is_hex h then Some (h ∷ (while_front is_hex bs).0, (while_front is_hex bs).1) else None) else None

-- the longest word of letters and digits, and what follows it
abbrev pub name_at : ℕ → ℕ → List ℕ → Option (Token × List ℕ)
name_at at b bs = let f = while_front is_name_byte bs in Some (word_token at (b ∷ f.0), f.1)

-- the longest run of digits, and what follows it
abbrev pub number_at : ℕ → List ℕ → Option (Token × List ℕ)
number_at b bs = let f = while_front is_digit bs in Some (decimal_token (b ∷ f.0), f.1)

-- a raw text where one stands here, else a word of letters and digits
abbrev pub or_raw : Option (List ℕ × List ℕ) → ℕ → ℕ → List ℕ → Option (Token × List ℕ)
or_raw (Some r) at b bs = Some (text_token r.0, r.1)
or_raw None at b bs = name_at at b bs

-- a hexadecimal integer where one stands here, else a decimal one
abbrev pub or_hex : Option (List ℕ × List ℕ) → ℕ → List ℕ → Option (Token × List ℕ)
or_hex (Some r) b bs = Some (hex_token r.0, r.1)
or_hex None b bs = number_at b bs

-- a token, if there is one, with what follows it
abbrev pub before : List ℕ → Option Token → Option (Token × List ℕ)
before rest None = None
before rest (Some t) = Some (t, rest)

-- a sign of two bytes where they are one, else the sign of one byte
abbrev pub or_one : Option Token → ℕ → ℕ → List ℕ → Option (Token × List ℕ)
or_one (Some t) b c bs = Some (t, bs)
or_one None b c bs = before (c ∷ bs) (one_sign b)

-- the text token of what was read between quotes
abbrev pub quoted : Option (List ℕ × List ℕ) → Option (Token × List ℕ)
quoted None = None
quoted (Some r) = Some (text_token r.0, r.1)

-- the word that begins with a letter
abbrev pub letter_at : ℕ → ℕ → List ℕ → Option (Token × List ℕ)
letter_at at b bs = if nat_eq b 114 then or_raw (raw_at bs) at b bs else name_at at b bs

-- the integer that begins with a digit
abbrev pub digit_at : ℕ → List ℕ → Option (Token × List ℕ)
digit_at b bs = if nat_eq b 48 then or_hex (hex_at bs) b bs else number_at b bs

-- the text that begins with a quote
abbrev pub quote_at : ℕ → List ℕ → Option (Token × List ℕ)
quote_at b bs = quoted (between (next_move TextKind.Escaped b) Mode.Plain bs)

-- the sign that begins with a byte, the longer one first
abbrev pub sign_at : ℕ → List ℕ → Option (Token × List ℕ)
sign_at b [] = before [] (one_sign b)
sign_at b (c ∷ bs) = or_one (two_sign b c) b c bs

-- a comment, or the sign of division
abbrev pub slash_at : List ℕ → Option (Piece × List ℕ)
slash_at [] = Some (Piece.Token (Token.Sign Div), [])
slash_at (c ∷ bs) = if nat_eq c 47 then Some (Piece.Blank, (while_front is_in_line bs).1) else Some (Piece.Token (Token.Sign Div), c ∷ bs)

-- a token as the word that it is
abbrev pub piece_of : Option (Token × List ℕ) → Option (Piece × List ℕ)
piece_of None = None
piece_of (Some x) = Some (Piece.Token x.0, x.1)

-- the first word of a text that begins at a place, and what follows it
abbrev pub word_at : ℕ → List ℕ → Option (Piece × List ℕ)
word_at at [] = None
word_at at (b ∷ bs) =
    if is_letter b then piece_of (letter_at at b bs) else if is_digit b then piece_of (digit_at b bs) else
    if is_quote b then piece_of (quote_at b bs) else if is_blank b then Some (Piece.Blank, bs) else
    if nat_eq b 47 then slash_at bs else piece_of (sign_at b bs)

-- what was found at the front of a text is its first word, or none is
abbrev pub IsFirst : ℕ → List ℕ → Option (Piece × List ℕ) → Type 0
IsFirst at text None = HasNoWord at text
IsFirst at text (Some x) = (word : List ℕ) × IsFirstWord at text word x.1 x.0
