-- The tokens of a text are such that a text can spell them.
use Rattle.std.proofs.Common.{◌≡◌, ℕ, ◌^◌, ◌<◌, Bool, true, false, cond, ◌&&◌, ◌||◌, List, [], ◌∷◌, Option, Some, None, refl, subst, arith, nat_eq, codes}
use Rattle.std.specs.Bool.{⊤}
use Rattle.std.specs.List.{AllByRecursion}
use Rattle.std.specs.Str.{bytes_eq}
use Rattle.cel_values.specs.declared.expr.BinaryOp.TheVariants.{Or, And, Lt, Le, Gt, Ge, Eq, Ne, Within, Add, Mul, Rem}
use Rattle.cel_tokens.specs.declared.token.Bracket.TheVariants.{Round, Square, Curly}
use Rattle.cel_tokens.specs.declared.token.Literal.{Literal}
use Rattle.cel_tokens.specs.declared.token.Token.{Token}
use Rattle.cel_tokens.specs.declared.token.Piece.{Piece}
use Rattle.cel_tokens.specs.declared.token.Lexeme.{Lexeme}
use Rattle.cel_tokens.specs.declared.quoted.Mode.{Mode}
use Rattle.cel_tokens.specs.declared.quoted.TextKind.{TextKind}
use Rattle.cel_tokens.specs.Words.{IsFirstWord, form, is_letter, is_digit, is_name_byte, is_quote, is_blank, is_hex, all_bytes, next_move, between, word_token, decimal_token, hex_token, saturated, decimal_number, hex_number, one_sign, two_sign, bracket_sign, mark_sign, is_reserved, is_in_line, closed_at, closed, raw_form, hex_form, letter_form, digit_form, quote_form, sign_form, slash_form, blank_form, as_piece}
use Rattle.cel_tokens.specs.Lexing.{Lexes, ended, stopped, blank, token}
use Rattle.cel_tokens.proofs.Spellable.{is_word, is_keyword, HasForm}
use Rattle.cel_tokens.proofs.Fronts.{either}
use Rattle.cel_tokens.proofs.Lossy.{IsUtf8-utf8_lossy}
use Rattle.cel_tokens.proofs.Spelled.{name_or_reserved}

abbrev HasFormIf : Option Token → Type 0
HasFormIf None = ⊤
HasFormIf (Some t) = HasForm t

abbrev HasPieceForm : Option Piece → Type 0
HasPieceForm None = ⊤
HasPieceForm (Some Piece.Blank) = ⊤
HasPieceForm (Some (Piece.Token t)) = HasForm t

given : {A : Type 0} (P : A → Type 0) (t : Bool) (x y : A) → (t ≡ true → P x) → P y → P (cond t x y)
given P true x y p q = p refl
given P false x y p q = q

word_form : (at : ℕ) (w : List ℕ) (a b c d r : Bool) → is_word w ≡ true → is_keyword w ≡ (a || b || c || d) → is_reserved w ≡ r →
    HasForm (cond a (Token.Literal (Literal.Bool true)) (cond b (Token.Literal (Literal.Bool false)) (cond c (Token.Literal Literal.Null) (cond d (Token.Sign Within) (name_or_reserved at w r)))))
word_form at w true b c d r is k s = tt
word_form at w false true c d r is k s = tt
word_form at w false false true d r is k s = tt
word_form at w false false false true r is k s = tt
word_form at w false false false false true is k s = rw (is, k, s) refl
word_form at w false false false false false is k s = rw (is, k, s) refl

closed_end : (v rest : List ℕ) → HasFormIf (closed_at v rest)
closed_end v [] = IsUtf8-utf8_lossy v
closed_end v (b ∷ bs) = tt

closed_has : (o : Option (List ℕ × List ℕ)) → HasFormIf (closed o)
closed_has None = tt
closed_has (Some r) = closed_end r.0 r.1

raw_has : (w : List ℕ) → HasFormIf (raw_form w)
raw_has [] = tt
raw_has (q ∷ w) = let o = between (next_move TextKind.Raw q) Mode.Plain w in either HasFormIf (is_quote q) (closed o) None (closed_has o) tt

letter_has : (at b : ℕ) (w : List ℕ) → is_letter b ≡ true → HasFormIf (letter_form at b w)
letter_has at b w letter =
    given HasFormIf (all_bytes is_name_byte w) (Some (word_token at (b ∷ w))) (cond (nat_eq b 114) (raw_form w) None)
    (λ all. word_form at (b ∷ w) (bytes_eq (b ∷ w) (codes "true")) (bytes_eq (b ∷ w) (codes "false")) (bytes_eq (b ∷ w) (codes "null")) (bytes_eq (b ∷ w) (codes "in")) (is_reserved (b ∷ w)) (rw (letter, all) refl) refl refl)
    (either HasFormIf (nat_eq b 114) (raw_form w) None (raw_has w) tt)

small : (n : ℕ) → saturated n < 2 ^ 64
small n = omega arith

hex_has : (w : List ℕ) → HasFormIf (hex_form w)
hex_has [] = tt
hex_has (x ∷ []) = tt
hex_has (x ∷ h ∷ w) =
    let found = cond (all_bytes is_hex (h ∷ w)) (Some (hex_token (h ∷ w))) None in
    either HasFormIf (nat_eq x 120) found None (either HasFormIf (all_bytes is_hex (h ∷ w)) (Some (hex_token (h ∷ w))) None (small (hex_number 0 (h ∷ w))) tt) tt

digit_has : (b : ℕ) (w : List ℕ) → HasFormIf (digit_form b w)
digit_has b w =
    either HasFormIf (all_bytes is_digit w) (Some (decimal_token (b ∷ w))) (cond (nat_eq b 48) (hex_form w) None) (small (decimal_number 0 (b ∷ w)))
    (either HasFormIf (nat_eq b 48) (hex_form w) None (hex_has w) tt)

or_sign : (t : Bool) (s : Token) (o : Option Token) → HasForm s → HasFormIf o → HasFormIf (cond t (Some s) o)
or_sign t s o = either HasFormIf t (Some s) o

bracket_has : (b : ℕ) → HasFormIf (bracket_sign b)
bracket_has b =
    or_sign (nat_eq b 40) (Token.Open Round) _ tt (or_sign (nat_eq b 41) (Token.Close Round) _ tt (or_sign (nat_eq b 91) (Token.Open Square) _ tt
    (or_sign (nat_eq b 93) (Token.Close Square) _ tt (or_sign (nat_eq b 123) (Token.Open Curly) _ tt (or_sign (nat_eq b 125) (Token.Close Curly) None tt tt)))))

mark_has : (b : ℕ) → HasFormIf (mark_sign b)
mark_has b =
    or_sign (nat_eq b 63) Token.Question _ tt (or_sign (nat_eq b 58) Token.Colon _ tt (or_sign (nat_eq b 33) Token.Bang _ tt
    (or_sign (nat_eq b 46) Token.Dot _ tt (or_sign (nat_eq b 44) Token.Comma (bracket_sign b) tt (bracket_has b)))))

one_has : (b : ℕ) → HasFormIf (one_sign b)
one_has b =
    or_sign (nat_eq b 60) (Token.Sign Lt) _ tt (or_sign (nat_eq b 62) (Token.Sign Gt) _ tt (or_sign (nat_eq b 43) (Token.Sign Add) _ tt
    (or_sign (nat_eq b 45) Token.Minus _ tt (or_sign (nat_eq b 42) (Token.Sign Mul) _ tt (or_sign (nat_eq b 37) (Token.Sign Rem) (mark_sign b) tt (mark_has b))))))

two_has : (b c : ℕ) → HasFormIf (two_sign b c)
two_has b c =
    or_sign (nat_eq b 124 && nat_eq c 124) (Token.Sign Or) _ tt (or_sign (nat_eq b 38 && nat_eq c 38) (Token.Sign And) _ tt (or_sign (nat_eq b 61 && nat_eq c 61) (Token.Sign Eq) _ tt
    (or_sign (nat_eq b 33 && nat_eq c 61) (Token.Sign Ne) _ tt (or_sign (nat_eq b 60 && nat_eq c 61) (Token.Sign Le) _ tt (or_sign (nat_eq b 62 && nat_eq c 61) (Token.Sign Ge) None tt tt)))))

sign_has : (b : ℕ) (w : List ℕ) → HasFormIf (sign_form b w)
sign_has b [] = one_has b
sign_has b (c ∷ []) = two_has b c
sign_has b (c ∷ d ∷ w) = tt

piece_has : (o : Option Token) → HasFormIf o → HasPieceForm (as_piece o)
piece_has None h = tt
piece_has (Some t) h = h

slash_has : (w : List ℕ) → HasPieceForm (slash_form w)
slash_has [] = tt
slash_has (c ∷ w) = either HasPieceForm (nat_eq c 47 && all_bytes is_in_line w) (Some Piece.Blank) None tt tt

blank_has : (w : List ℕ) → HasPieceForm (blank_form w)
blank_has [] = tt
blank_has (c ∷ w) = tt

form_has : (at : ℕ) (w : List ℕ) → HasPieceForm (form at w)
form_has at [] = tt
form_has at (b ∷ w) =
    given HasPieceForm (is_letter b) (as_piece (letter_form at b w)) _ (λ letter. piece_has (letter_form at b w) (letter_has at b w letter))
    (either HasPieceForm (is_digit b) (as_piece (digit_form b w)) _ (piece_has (digit_form b w) (digit_has b w))
    (either HasPieceForm (is_quote b) (as_piece (quote_form b w)) _ (piece_has (quote_form b w) (closed_has (between (next_move TextKind.Escaped b) Mode.Plain w)))
    (either HasPieceForm (is_blank b) (blank_form w) _ (blank_has w)
    (either HasPieceForm (nat_eq b 47) (slash_form w) (as_piece (sign_form b w)) (slash_has w) (piece_has (sign_form b w) (sign_has b w))))))

word_has : {at : ℕ} {text word rest : List ℕ} {t : Token} → IsFirstWord at text word rest (Piece.Token t) → HasForm t
word_has {at} {text} {word} {rest} {t} w = subst HasPieceForm w.is (form_has at word)

pub lexed_forms : {at : ℕ} {text : List ℕ} {tokens : List Lexeme} {stop : Option ℕ} → Lexes at text tokens stop → AllByRecursion (λ l. HasForm l.token) tokens
lexed_forms ended = tt
lexed_forms (stopped less none) = tt
lexed_forms (blank w d) = lexed_forms d
lexed_forms (token w d) = (word_has w, lexed_forms d)
