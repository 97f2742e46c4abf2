-- The forms of tokens, blanks and comments in bytes. A form goes by its first byte, and the longest one that fits counts.
use Rattle.std.specs.Prelude.{◌≡◌, ℕ, ◌+◌, ◌-◌, ◌*◌, ◌^◌, ◌≤◌, List, [], ◌∷◌, ◌++◌, length, Bool, true, false, not, ◌&&◌, ◌||◌, nat_le, nat_eq, if◌then◌else◌, Option, Some, None, encode_utf8, min, codes}
use Rattle.std.specs.Str.{bytes_eq}
use Rattle.std.specs.Str.Lossy.{utf8_lossy}
use Rattle.cel_values.specs.declared.expr.BinaryOp.TheVariants.{Or, And, Lt, Le, Gt, Ge, Eq, Ne, Within, Add, Mul, Div, Rem}
use Rattle.cel_tokens.specs.declared.token.Bracket.TheVariants.{Round, Square, Curly}
use Rattle.cel_tokens.specs.declared.token.Literal.{Literal}
use Rattle.cel_tokens.specs.declared.token.Token.{Token}
use Rattle.cel_tokens.specs.declared.token.Piece.{Piece}
use Rattle.cel_tokens.specs.declared.quoted.Mode.{Mode}
use Rattle.cel_tokens.specs.declared.quoted.Added.{Added}
use Rattle.cel_tokens.specs.declared.quoted.Move.{Move}
use Rattle.cel_tokens.specs.declared.quoted.TextKind.{TextKind}

-- a number from one to another
abbrev pub within : ℕ → ℕ → ℕ → Bool
within low high b = nat_le low b && nat_le b high

-- 0 to 9
abbrev pub is_digit : ℕ → Bool
is_digit b = within 48 57 b

-- A to Z, a to z and `_`
abbrev pub is_letter : ℕ → Bool
is_letter b = within 65 90 b || within 97 122 b || nat_eq b 95

-- what may stand in a name behind its first byte
abbrev pub is_name_byte : ℕ → Bool
is_name_byte b = is_letter b || is_digit b

-- 0 to 9, A to F and a to f
abbrev pub is_hex : ℕ → Bool
is_hex b = is_digit b || within 65 70 b || within 97 102 b

-- a double or a single quote
abbrev pub is_quote : ℕ → Bool
is_quote b = nat_eq b 34 || nat_eq b 39

-- LF or CR
abbrev pub is_line_end : ℕ → Bool
is_line_end b = nat_eq b 10 || nat_eq b 13

-- a byte that ends no line
abbrev pub is_in_line : ℕ → Bool
is_in_line b = not (is_line_end b)

-- space, tab, LF, FF, CR
abbrev pub is_blank : ℕ → Bool
is_blank b = nat_eq b 32 || nat_eq b 9 || nat_eq b 10 || nat_eq b 12 || nat_eq b 13

-- every byte passes the test
abbrev pub all_bytes : (ℕ → Bool) → List ℕ → Bool
all_bytes p [] = true
all_bytes p (b ∷ bs) = p b && all_bytes p bs

-- ---- what stands between quotes, byte by byte

-- the value of a hexadecimal digit
abbrev pub hex_value : ℕ → ℕ
hex_value b = if is_digit b then b - 48 else if nat_le 97 b then b - 87 else b - 55

-- behind a backslash
abbrev pub escaped : ℕ → Move
escaped b =
    if nat_eq b 92 || is_quote b then Move.On Mode.Plain (Added.Byte b) else
    if nat_eq b 110 then Move.On Mode.Plain (Added.Byte 10) else
    if nat_eq b 114 then Move.On Mode.Plain (Added.Byte 13) else
    if nat_eq b 116 then Move.On Mode.Plain (Added.Byte 9) else
    if nat_eq b 117 then Move.On Mode.Point Added.Nothing else Move.Stop

-- the code point of four hexadecimal digits, which is no surrogate
abbrev pub pointed : ℕ → Move
pointed value = if within 0xd800 0xdfff value then Move.Stop else Move.On Mode.Plain (Added.Scalar value)

-- one more digit of a code point
abbrev pub digit_moved : Mode → ℕ → Move
digit_moved Mode.Point h = Move.On (Mode.Point1 h) Added.Nothing
digit_moved (Mode.Point1 x) h = Move.On (Mode.Point2 x h) Added.Nothing
digit_moved (Mode.Point2 x y) h = Move.On (Mode.Point3 x y h) Added.Nothing
digit_moved (Mode.Point3 x y z) h = pointed (((x * 16 + y) * 16 + z) * 16 + h)
digit_moved mode h = Move.Stop

-- what a byte does between quotes, in a text with escapes
abbrev pub text_move : ℕ → Mode → ℕ → Move
text_move quote Mode.Plain b = if nat_eq b quote then Move.Done else if is_line_end b then Move.Stop else if nat_eq b 92 then Move.On Mode.Escape Added.Nothing else Move.On Mode.Plain (Added.Byte b)
text_move quote Mode.Escape b = escaped b
text_move quote mode b = if is_hex b then digit_moved mode (hex_value b) else Move.Stop

-- what a byte does between quotes, in a raw text
abbrev pub raw_move : ℕ → ℕ → Move
raw_move quote b = if nat_eq b quote then Move.Done else if is_line_end b then Move.Stop else Move.On Mode.Plain (Added.Byte b)

-- what a byte does between quotes, in a text of either kind
abbrev pub next_move : TextKind → ℕ → Mode → ℕ → Move
next_move TextKind.Escaped quote mode b = text_move quote mode b
next_move TextKind.Raw quote mode b = raw_move quote b

-- the bytes that a move adds
abbrev pub added : Added → List ℕ
added Added.Nothing = []
added (Added.Byte b) = b ∷ []
added (Added.Scalar c) = encode_utf8 c

-- these bytes before what was read
abbrev pub with_front : List ℕ → Option (List ℕ × List ℕ) → Option (List ℕ × List ℕ)
with_front bytes None = None
with_front bytes (Some r) = Some (bytes ++ r.0, r.1)

-- what is read by a move: nothing, the end, or more behind what it adds
abbrev pub moved : Move → List ℕ → (Mode → Option (List ℕ × List ℕ)) → Option (List ℕ × List ℕ)
moved Move.Stop rest go = None
moved Move.Done rest go = Some ([], rest)
moved (Move.On mode a) rest go = with_front (added a) (go mode)

-- what stands before the closing quote, and what follows it
abbrev pub between : (Mode → ℕ → Move) → Mode → List ℕ → Option (List ℕ × List ℕ)
between next mode [] = None
between next mode (b ∷ bs) = moved (next mode b) bs (λ m. between next m bs)

-- ---- the forms

-- the number of decimal digits behind a number
abbrev pub decimal_number : ℕ → List ℕ → ℕ
decimal_number n [] = n
decimal_number n (b ∷ bs) = decimal_number (n * 10 + (b - 48)) bs

-- the number of hexadecimal digits behind a number
abbrev pub hex_number : ℕ → List ℕ → ℕ
hex_number n [] = n
hex_number n (b ∷ bs) = hex_number (n * 16 + hex_value b) bs

-- a number that 64 bits don't hold counts as the largest that they do
abbrev pub saturated : ℕ → ℕ
saturated n = min n (2 ^ 64 - 1)

-- the integer of decimal digits
abbrev pub decimal_token : List ℕ → Token
decimal_token w = Token.Integer (saturated (decimal_number 0 w))

-- the integer of hexadecimal digits
abbrev pub hex_token : List ℕ → Token
hex_token w = Token.Integer (saturated (hex_number 0 w))

-- what stands between quotes is UTF-8 where the text is; elsewhere U+FFFD stands for what isn't
abbrev pub text_token : List ℕ → Token
text_token v = Token.Literal (Literal.Text (utf8_lossy v))

-- the reserved words of statements
unfoldable pub is_control_word : List ℕ → Bool
is_control_word w =
    bytes_eq w (codes "break") || bytes_eq w (codes "continue") || bytes_eq w (codes "else") || bytes_eq w (codes "for")
    || bytes_eq w (codes "if") || bytes_eq w (codes "loop") || bytes_eq w (codes "return") || bytes_eq w (codes "while")

-- the reserved words of declarations
unfoldable pub is_declaring_word : List ℕ → Bool
is_declaring_word w =
    bytes_eq w (codes "as") || bytes_eq w (codes "const") || bytes_eq w (codes "function") || bytes_eq w (codes "import")
    || bytes_eq w (codes "let") || bytes_eq w (codes "namespace") || bytes_eq w (codes "package") || bytes_eq w (codes "var")
    || bytes_eq w (codes "void")

-- the reserved words
abbrev pub is_reserved : List ℕ → Bool
is_reserved w = is_control_word w || is_declaring_word w

-- a keyword, a reserved word or a name, which keeps its place
abbrev pub word_token : ℕ → List ℕ → Token
word_token at w =
    if bytes_eq w (codes "true") then Token.Literal (Literal.Bool true) else
    if bytes_eq w (codes "false") then Token.Literal (Literal.Bool false) else
    if bytes_eq w (codes "null") then Token.Literal Literal.Null else
    if bytes_eq w (codes "in") then Token.Sign Within else
    if is_reserved w then Token.Reserved (record { at = at; text = w }) else Token.Name (record { at = at; text = w })

-- a text that ends the word with its closing quote
abbrev pub closed_at : List ℕ → List ℕ → Option Token
closed_at v [] = Some (text_token v)
closed_at v (b ∷ bs) = None

-- what was read between quotes, as a text where the word ends with it
abbrev pub closed : Option (List ℕ × List ℕ) → Option Token
closed None = None
closed (Some r) = closed_at r.0 r.1

-- the raw text that follows an `r`
abbrev pub raw_form : List ℕ → Option Token
raw_form [] = None
raw_form (q ∷ w) = if is_quote q then closed (between (next_move TextKind.Raw q) Mode.Plain w) else None

-- the hexadecimal integer that follows a `0`
abbrev pub hex_form : List ℕ → Option Token
hex_form [] = None
hex_form (x ∷ []) = None
hex_form (x ∷ h ∷ w) = if nat_eq x 120 then (if all_bytes is_hex (h ∷ w) then Some (hex_token (h ∷ w)) else None) else None

-- the token of a bracket
abbrev pub bracket_sign : ℕ → Option Token
bracket_sign b =
    if nat_eq b 40 then Some (Token.Open Round) else if nat_eq b 41 then Some (Token.Close Round) else
    if nat_eq b 91 then Some (Token.Open Square) else if nat_eq b 93 then Some (Token.Close Square) else
    if nat_eq b 123 then Some (Token.Open Curly) else if nat_eq b 125 then Some (Token.Close Curly) else None

-- the token of a mark that is no operator of two operands
abbrev pub mark_sign : ℕ → Option Token
mark_sign b =
    if nat_eq b 63 then Some Token.Question else if nat_eq b 58 then Some Token.Colon else
    if nat_eq b 33 then Some Token.Bang else if nat_eq b 46 then Some Token.Dot else
    if nat_eq b 44 then Some Token.Comma else bracket_sign b

-- the token of one byte, but for `/`
abbrev pub one_sign : ℕ → Option Token
one_sign b =
    if nat_eq b 60 then Some (Token.Sign Lt) else if nat_eq b 62 then Some (Token.Sign Gt) else
    if nat_eq b 43 then Some (Token.Sign Add) else if nat_eq b 45 then Some Token.Minus else
    if nat_eq b 42 then Some (Token.Sign Mul) else if nat_eq b 37 then Some (Token.Sign Rem) else mark_sign b

-- the token of two bytes
abbrev pub two_sign : ℕ → ℕ → Option Token
two_sign b c =
    if nat_eq b 124 && nat_eq c 124 then Some (Token.Sign Or) else if nat_eq b 38 && nat_eq c 38 then Some (Token.Sign And) else
    if nat_eq b 61 && nat_eq c 61 then Some (Token.Sign Eq) else if nat_eq b 33 && nat_eq c 61 then Some (Token.Sign Ne) else
    if nat_eq b 60 && nat_eq c 61 then Some (Token.Sign Le) else if nat_eq b 62 && nat_eq c 61 then Some (Token.Sign Ge) else None

-- the forms behind a first byte
abbrev pub letter_form : ℕ → ℕ → List ℕ → Option Token
letter_form at b w = if all_bytes is_name_byte w then Some (word_token at (b ∷ w)) else if nat_eq b 114 then raw_form w else None

-- the integer behind its first digit
abbrev pub digit_form : ℕ → List ℕ → Option Token
digit_form b w = if all_bytes is_digit w then Some (decimal_token (b ∷ w)) else if nat_eq b 48 then hex_form w else None

-- the text behind its opening quote
abbrev pub quote_form : ℕ → List ℕ → Option Token
quote_form b w = closed (between (next_move TextKind.Escaped b) Mode.Plain w)

-- the sign of one byte or two
abbrev pub sign_form : ℕ → List ℕ → Option Token
sign_form b [] = one_sign b
sign_form b (c ∷ []) = two_sign b c
sign_form b (c ∷ d ∷ w) = None

-- `/`, or `//` and what follows in its line
abbrev pub slash_form : List ℕ → Option Piece
slash_form [] = Some (Piece.Token (Token.Sign Div))
slash_form (c ∷ w) = if nat_eq c 47 && all_bytes is_in_line w then Some Piece.Blank else None

-- one blank byte
abbrev pub blank_form : List ℕ → Option Piece
blank_form [] = Some Piece.Blank
blank_form (c ∷ w) = None

-- a token as the word that it is
abbrev pub as_piece : Option Token → Option Piece
as_piece None = None
as_piece (Some t) = Some (Piece.Token t)

-- what a whole word that stands at a place is: a blank byte, a comment or a token
abbrev pub form : ℕ → List ℕ → Option Piece
form at [] = None
form at (b ∷ w) =
    if is_letter b then as_piece (letter_form at b w) else if is_digit b then as_piece (digit_form b w) else
    if is_quote b then as_piece (quote_form b w) else if is_blank b then blank_form w else
    if nat_eq b 47 then slash_form w else as_piece (sign_form b w)

-- a word stands at the front of a text that begins at a place, and no longer front is one
pub record IsFirstWord (at : ℕ) (text word rest : List ℕ) (piece : Piece) : Type 0 where
  pub front : text ≡ word ++ rest
  pub is : form at word ≡ Some piece
  pub longest : (w r : List ℕ) (p : Piece) → text ≡ w ++ r → form at w ≡ Some p → length w ≤ length word

-- no front of a text is a word
abbrev pub HasNoWord : ℕ → List ℕ → Type 0
HasNoWord at text = (w r : List ℕ) (p : Piece) → text ≡ w ++ r → form at w ≡ Some p → ⊥
