-- Which tokens a text can spell, and what stands behind a word.
use Rattle.std.specs.Prelude.{◌≡◌, ℕ, ◌^◌, ◌<◌, List, [], ◌∷◌, Bool, true, false, not, ◌&&◌, ◌||◌, nat_eq, codes, IsUtf8, ⊤}
use Rattle.std.specs.Str.{bytes_eq}
use Rattle.cel_values.specs.declared.expr.BinaryOp.{BinaryOp}
use Rattle.cel_values.specs.declared.expr.BinaryOp.TheVariants.{Sub}
use Rattle.cel_tokens.specs.declared.token.Literal.{Literal}
use Rattle.cel_tokens.specs.declared.token.Token.{Token}
use Rattle.cel_tokens.specs.Words.{is_letter, is_name_byte, all_bytes, is_reserved}

-- ---- words

-- letters and digits that begin with a letter
abbrev pub is_word : List ℕ → Bool
is_word [] = false
is_word (b ∷ w) = is_letter b && all_bytes is_name_byte w

-- the words that are no field
abbrev pub is_keyword : List ℕ → Bool
is_keyword w = bytes_eq w (codes "true") || bytes_eq w (codes "false") || bytes_eq w (codes "null") || bytes_eq w (codes "in")

-- a word that is neither a keyword nor reserved
abbrev pub is_name : List ℕ → Bool
is_name w = is_word w && not (is_keyword w) && not (is_reserved w)

-- a reserved word
abbrev pub is_reserved_name : List ℕ → Bool
is_reserved_name w = is_word w && not (is_keyword w) && is_reserved w

-- ---- operators

-- the token of an operator
abbrev pub operator_token : BinaryOp → Token
operator_token Sub = Token.Minus
operator_token op = Token.Sign op

-- ---- what stands behind a token

-- space ( ) , . : [ ] }
abbrev pub is_stop : ℕ → Bool
is_stop b =
    nat_eq b 32 || nat_eq b 40 || nat_eq b 41 || nat_eq b 44 || nat_eq b 46 || nat_eq b 58 || nat_eq b 91 || nat_eq b 93 || nat_eq b 125

-- nothing, or a byte that extends no word
abbrev pub stops : List ℕ → Bool
stops [] = true
stops (b ∷ bs) = is_stop b

-- the bytes begin with this one
abbrev pub begins : ℕ → List ℕ → Bool
begins c [] = false
begins c (b ∷ bs) = nat_eq b c

-- ---- tokens

-- a token that a text can spell
abbrev pub HasForm : Token → Type 0
HasForm (Token.Name n) = is_name n.text ≡ true
HasForm (Token.Reserved n) = is_reserved_name n.text ≡ true
HasForm (Token.Integer n) = n < 2 ^ 64
HasForm (Token.Literal (Literal.Text t)) = IsUtf8 t
HasForm t = ⊤
