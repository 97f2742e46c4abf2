-- The keys and strings among the tokens of a UTF-8 text are UTF-8.
use Rattle.std.proofs.Common.{◌≡◌, ℕ, ◌-◌, Bool, true, false, cond, ◌&&◌, ◌==◌, length, take, drop, List, [], ◌∷◌, ◌++◌, Option, Some, None, IfSome, sym, subst, arith, append_assoc, refl, nat_eq}
use Rattle.std.specs.Prelude.{⊤}
use Rattle.std.specs.Str.{IsUtf8}
use Rattle.std.specs.List.{AllByRecursion, starts_with}
use Rattle.std.proofs.lemmas.Bool.{eqb-true}
use Rattle.json.specs.Token.{Token, begin_object, end_object, begin_array, end_array, key, string, number, boolean, null, bad}
use Rattle.json.specs.Ascii as ascii
use Rattle.json.specs.Text.{content, plain}
use Rattle.json.specs.Word.{head, ends_word, is_operator, is_space, word, literal, number_before, after_number}
use Rattle.json.specs.Lex.{Lexeme, token, comma, colon, Class, quote, backslash, operator, space, other, class, operator_lexeme, string_token, Mode, between, in_word, in_string, in_escape, lex_byte, lex, Place, fresh, after_value, after_comma, after_key, begins_colon, may_begin, may_close, if_allowed, place_token, punctuate, tokens}
use Rattle.json_text.proofs.Contents.{after_ascii, content_utf8}

abbrev pub TokenHasUtf8 : Token → Type 0
TokenHasUtf8 begin_object = ⊤
TokenHasUtf8 end_object = ⊤
TokenHasUtf8 begin_array = ⊤
TokenHasUtf8 end_array = ⊤
TokenHasUtf8 (key s) = IsUtf8 s
TokenHasUtf8 (string s) = IsUtf8 s
TokenHasUtf8 (number s) = ⊤
TokenHasUtf8 (boolean b) = ⊤
TokenHasUtf8 null = ⊤
TokenHasUtf8 bad = ⊤

abbrev pub TokensHaveUtf8 : List Token → Type 0
TokensHaveUtf8 ts = AllByRecursion TokenHasUtf8 ts

-- ---- lexemes

abbrev LexemeHasUtf8 : Lexeme → Type 0
LexemeHasUtf8 (token t) = TokenHasUtf8 t
LexemeHasUtf8 comma = ⊤
LexemeHasUtf8 colon = ⊤

abbrev LexemesHaveUtf8 : List Lexeme → Type 0
LexemesHaveUtf8 ls = AllByRecursion LexemeHasUtf8 ls

either_utf8 : (b : Bool) (t u : Token) → TokenHasUtf8 t → TokenHasUtf8 u → TokenHasUtf8 (cond b t u)
either_utf8 true t u first second = first
either_utf8 false t u first second = second

number_utf8 : (text : List ℕ) (rest : Option (List ℕ)) → TokenHasUtf8 (number_before text rest)
number_utf8 text None = tt
number_utf8 text (Some rest) = either_utf8 (ends_word rest) (number (take (length text - length rest) text)) bad tt tt

literal_utf8 : (name text : List ℕ) (t : Token) → TokenHasUtf8 t → TokenHasUtf8 (literal name t text)
literal_utf8 name text t h = either_utf8 (starts_with nat_eq text name && ends_word (drop (length name) text)) t bad h tt

one_of_utf8 : (a b c : Bool) (t u v w : Token) → TokenHasUtf8 t → TokenHasUtf8 u → TokenHasUtf8 v → TokenHasUtf8 w → TokenHasUtf8 (cond a t (cond b u (cond c v w)))
one_of_utf8 true b c t u v w p q r s = p
one_of_utf8 false true c t u v w p q r s = q
one_of_utf8 false false true t u v w p q r s = r
one_of_utf8 false false false t u v w p q r s = s

word_utf8 : (text : List ℕ) → TokenHasUtf8 (word text)
unfolding word
word_utf8 text =
    one_of_utf8 (head text == ascii.lower_t) (head text == ascii.lower_f) (head text == ascii.lower_n)
    (literal ascii.true_text (boolean true) text) (literal ascii.false_text (boolean false) text) (literal ascii.null_text null text) (number_before text (after_number text))
    (literal_utf8 ascii.true_text text (boolean true) tt) (literal_utf8 ascii.false_text text (boolean false) tt) (literal_utf8 ascii.null_text text null tt) (number_utf8 text (after_number text))

string_utf8 : (o : Option (List ℕ)) → IfSome o IsUtf8 → TokenHasUtf8 (string_token o)
string_utf8 None h = tt
string_utf8 (Some s) h = h

operator_by_tests : (a b c d e : Bool)
    → LexemeHasUtf8 (cond a (token begin_object) (cond b (token end_object) (cond c (token begin_array) (cond d (token end_array) (cond e comma colon)))))
operator_by_tests true b c d e = tt
operator_by_tests false true c d e = tt
operator_by_tests false false true d e = tt
operator_by_tests false false false true e = tt
operator_by_tests false false false false true = tt
operator_by_tests false false false false false = tt

operator_utf8 : (x : ℕ) → LexemeHasUtf8 (operator_lexeme x)
operator_utf8 x = operator_by_tests (x == ascii.open_brace) (x == ascii.close_brace) (x == ascii.open_bracket) (x == ascii.close_bracket) (x == ascii.comma)

-- a string that begins with a byte of the class is UTF-8
abbrev BeginsUtf8 : List ℕ → Class → Type 0
BeginsUtf8 xs quote = IfSome (content plain xs) IsUtf8
BeginsUtf8 xs backslash = ⊤
BeginsUtf8 xs operator = ⊤
BeginsUtf8 xs space = ⊤
BeginsUtf8 xs other = ⊤

class_by_tests : (xs : List ℕ) (a b c d : Bool) → (a ≡ true → IfSome (content plain xs) IsUtf8)
    → BeginsUtf8 xs (cond a quote (cond b backslash (cond c operator (cond d space other))))
class_by_tests xs true b c d h = h refl
class_by_tests xs false true c d h = tt
class_by_tests xs false false true d h = tt
class_by_tests xs false false false true h = tt
class_by_tests xs false false false false h = tt

class_utf8 : (front : List ℕ) (x : ℕ) (xs : List ℕ) → IsUtf8 (front ++ x ∷ xs) → BeginsUtf8 xs (class x)
class_utf8 front x xs u =
    class_by_tests xs (x == ascii.quote) (x == ascii.backslash) (is_operator x) (is_space x) (λ is. content_utf8 xs (after_ascii front x xs (omega (arith, eqb-true x 34 is)) u))

byte_utf8 : (m : Mode) (c : Class) (x : ℕ) (xs : List ℕ) (k : Mode → List Lexeme) → BeginsUtf8 xs c → ((next : Mode) → LexemesHaveUtf8 (k next)) → LexemesHaveUtf8 (lex_byte m c x xs k)
byte_utf8 between quote x xs k begins more = (string_utf8 (content plain xs) begins, more in_string)
byte_utf8 between backslash x xs k begins more = (tt, more in_word)
byte_utf8 between operator x xs k begins more = (operator_utf8 x, more between)
byte_utf8 between space x xs k begins more = more between
byte_utf8 between other x xs k begins more = (word_utf8 (x ∷ xs), more in_word)
byte_utf8 in_word quote x xs k begins more = more in_word
byte_utf8 in_word backslash x xs k begins more = more in_word
byte_utf8 in_word operator x xs k begins more = (operator_utf8 x, more between)
byte_utf8 in_word space x xs k begins more = more between
byte_utf8 in_word other x xs k begins more = more in_word
byte_utf8 in_string quote x xs k begins more = more between
byte_utf8 in_string backslash x xs k begins more = more in_escape
byte_utf8 in_string operator x xs k begins more = more in_string
byte_utf8 in_string space x xs k begins more = more in_string
byte_utf8 in_string other x xs k begins more = more in_string
byte_utf8 in_escape c x xs k begins more = more in_string

lex_utf8 : (m : Mode) (front xs : List ℕ) → IsUtf8 (front ++ xs) → LexemesHaveUtf8 (lex m xs)
unfolding lex
lex_utf8 m front [] u = tt
lex_utf8 m front (x ∷ xs) u =
    byte_utf8 m (class x) x xs (λ next. lex next xs) (class_utf8 front x xs u)
    (λ next. lex_utf8 next (front ++ x ∷ []) xs (subst IsUtf8 (sym (append_assoc front (x ∷ []) xs)) u))

-- ---- tokens

allowed_utf8 : (b : Bool) (t : Token) (k : Place → List Token) (next : Place) → TokenHasUtf8 t → TokensHaveUtf8 (k next) → TokensHaveUtf8 (if_allowed b t k next)
allowed_utf8 true t k next h more = (h, more)
allowed_utf8 false t k next h more = (tt, tt)

place_utf8 : (p : Place) (t : Token) (b : Bool) (k : Place → List Token) → TokenHasUtf8 t → ((next : Place) → TokensHaveUtf8 (k next)) → TokensHaveUtf8 (place_token p t b k)
place_utf8 p begin_object b k h more = allowed_utf8 (may_begin p) begin_object k fresh tt (more fresh)
place_utf8 p end_object b k h more = allowed_utf8 (may_close p) end_object k after_value tt (more after_value)
place_utf8 p begin_array b k h more = allowed_utf8 (may_begin p) begin_array k fresh tt (more fresh)
place_utf8 p end_array b k h more = allowed_utf8 (may_close p) end_array k after_value tt (more after_value)
place_utf8 p (key s) b k h more = (tt, tt)
place_utf8 p (string s) true k h more = allowed_utf8 (may_begin p) (key s) k after_key h (more after_key)
place_utf8 p (string s) false k h more = allowed_utf8 (may_begin p) (string s) k after_value h (more after_value)
place_utf8 p (number s) b k h more = allowed_utf8 (may_begin p) (number s) k after_value tt (more after_value)
place_utf8 p (boolean v) b k h more = allowed_utf8 (may_begin p) (boolean v) k after_value tt (more after_value)
place_utf8 p null b k h more = allowed_utf8 (may_begin p) null k after_value tt (more after_value)
place_utf8 p bad b k h more = (tt, tt)

punctuate_utf8 : (p : Place) (ls : List Lexeme) → LexemesHaveUtf8 ls → TokensHaveUtf8 (punctuate p ls)
unfolding punctuate
punctuate_utf8 fresh [] h = tt
punctuate_utf8 after_value [] h = tt
punctuate_utf8 after_comma [] h = (tt, tt)
punctuate_utf8 after_key [] h = (tt, tt)
punctuate_utf8 fresh (token t ∷ ls) h = place_utf8 fresh t (begins_colon ls) (λ next. punctuate next ls) h.0 (λ next. punctuate_utf8 next ls h.1)
punctuate_utf8 after_value (token t ∷ ls) h = place_utf8 after_value t (begins_colon ls) (λ next. punctuate next ls) h.0 (λ next. punctuate_utf8 next ls h.1)
punctuate_utf8 after_comma (token t ∷ ls) h = place_utf8 after_comma t (begins_colon ls) (λ next. punctuate next ls) h.0 (λ next. punctuate_utf8 next ls h.1)
punctuate_utf8 after_key (token t ∷ ls) h = place_utf8 after_key t (begins_colon ls) (λ next. punctuate next ls) h.0 (λ next. punctuate_utf8 next ls h.1)
punctuate_utf8 fresh (comma ∷ ls) h = (tt, tt)
punctuate_utf8 after_value (comma ∷ ls) h = punctuate_utf8 after_comma ls h.1
punctuate_utf8 after_comma (comma ∷ ls) h = (tt, tt)
punctuate_utf8 after_key (comma ∷ ls) h = (tt, tt)
punctuate_utf8 fresh (colon ∷ ls) h = (tt, tt)
punctuate_utf8 after_value (colon ∷ ls) h = (tt, tt)
punctuate_utf8 after_comma (colon ∷ ls) h = (tt, tt)
punctuate_utf8 after_key (colon ∷ ls) h = punctuate_utf8 fresh ls h.1

pub tokens_utf8 : (text : List ℕ) → IsUtf8 text → TokensHaveUtf8 (tokens text)
tokens_utf8 text u = punctuate_utf8 fresh (lex between text) (lex_utf8 between [] text u)
