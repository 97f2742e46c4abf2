-- What spells a token is read as that token.
use Rattle.std.proofs.Common.{◌≡◌, ℕ, ◌+◌, ◌^◌, ◌<◌, Bool, true, false, cond, not, ◌&&◌, ◌||◌, List, [], ◌∷◌, ◌++◌, length, Option, Some, None, refl, sym, ap, ◌∙◌, subst, arith, rules, length-append, append_assoc, nat_eq, codes, IsUtf8}
use Rattle.std.specs.Bool.{⊤}
use Rattle.std.specs.Fmt.{decimal}
use Rattle.std.specs.Str.{bytes_eq}
use Rattle.std.proofs.lemmas.Bool.Decides.{nat_tests}
use Rattle.std.proofs.lemmas.Fmt.{digits_decimal, digits_value-decimal, decimal_nonempty}
use Rattle.std.proofs.lemmas.Str.{utf8_lossy-IsUtf8}
use Rattle.std.proofs.lemmas.Str.Parse.{IsNumeralModel, numerals_by_fold}
use Rattle.cel_values.specs.declared.expr.BinaryOp.{BinaryOp}
use Rattle.cel_values.specs.declared.expr.BinaryOp.TheVariants.{Ne, Within}
use Rattle.cel_tokens.specs.declared.token.Bracket.TheVariants.{Round, Square, Curly}
use Rattle.cel_tokens.specs.declared.token.Literal.{Literal}
use Rattle.cel_tokens.specs.declared.token.Token.{Token}
use Rattle.cel_tokens.specs.declared.token.Piece.{Piece}
use Rattle.cel_tokens.specs.declared.token.Lexeme.{Lexeme}
use Rattle.cel_tokens.specs.declared.quoted.Mode.{Mode}
use Rattle.cel_tokens.specs.declared.quoted.TextKind.{TextKind}
use Rattle.cel_tokens.specs.Words.{is_letter, is_digit, is_name_byte, is_quote, is_hex, all_bytes, next_move, between, with_front, word_token, decimal_token, saturated, decimal_number, one_sign, two_sign, is_reserved, is_control_word, is_declaring_word}
use Rattle.cel_tokens.specs.FirstWord.{word_at, while_front, raw_at, hex_at, name_at, number_at, or_raw, or_hex, letter_at, digit_at, sign_at, piece_of, quoted as text_found, before, or_one}
use Rattle.cel_tokens.specs.Lexing.{Lexes, blank, token}
use Rattle.cel_tokens.specs.Spelling.{quoted_byte, quoted_bytes, quoted, operator}
use Rattle.cel_tokens.proofs.Spellable.{is_word, is_keyword, is_name, is_reserved_name, operator_token, is_stop, stops, begins}
use Rattle.cel_tokens.proofs.Fronts.{and_parts, chosen, passed}
use Rattle.cel_tokens.proofs.Longest.{eq_from}
use Rattle.cel_tokens.proofs.Lexed.{first_of}

-- a token and what follows it
abbrev pub token_before : Token → List ℕ → Option (Piece × List ℕ)
token_before t more = Some (Piece.Token t, more)

-- ---- runs

abbrev Ends : (ℕ → Bool) → List ℕ → Type 0
Ends p [] = ⊤
Ends p (b ∷ bs) = p b ≡ false

-- a run ends at a stop that fails its test
ends_there : (p : ℕ → Bool) → ((b : ℕ) → is_stop b ≡ true → p b ≡ false) → (more : List ℕ) → stops more ≡ true → Ends p more
ends_there p fails [] s = tt
ends_there p fails (b ∷ bs) s = fails b s

run_front : (p : ℕ → Bool) (w more : List ℕ) → all_bytes p w ≡ true → Ends p more → while_front p (w ++ more) ≡ (w, more)
run_front p [] [] h e = refl
run_front p [] (b ∷ bs) h e = passed (p b) (b ∷ (while_front p bs).0, (while_front p bs).1) ([], b ∷ bs) e
run_front p (b ∷ w) more h e =
    let parts = and_parts (p b) (all_bytes p w) h in
    let r = while_front p (w ++ more) in
    chosen (p b) (b ∷ r.0, r.1) ([], b ∷ (w ++ more)) parts.0 ∙ ap (λ (q : List ℕ × List ℕ). (b ∷ q.0, q.1)) (run_front p w more parts.1 e)

-- ---- words

stop_no_name : (b : ℕ) → is_stop b ≡ true → is_name_byte b ≡ false
stop_no_name b h = grind (arith, nat_tests)

stop_no_quote : (b : ℕ) → is_stop b ≡ true → is_quote b ≡ false
stop_no_quote b h = grind (arith, nat_tests)

name_no_quote : (b : ℕ) → is_name_byte b ≡ true → is_quote b ≡ false
name_no_quote b h = grind (arith, nat_tests)

no_raw : (w more : List ℕ) → all_bytes is_name_byte w ≡ true → stops more ≡ true → raw_at (w ++ more) ≡ None
no_raw [] [] h s = refl
no_raw [] (b ∷ bs) h s = passed (is_quote b) (between (next_move TextKind.Raw b) Mode.Plain bs) None (stop_no_quote b s)
no_raw (b ∷ w) more h s = passed (is_quote b) (between (next_move TextKind.Raw b) Mode.Plain (w ++ more)) None (name_no_quote b (and_parts (is_name_byte b) (all_bytes is_name_byte w) h).0)

letter_plain : (at b : ℕ) (bs : List ℕ) (t : Bool) → raw_at bs ≡ None → cond t (or_raw (raw_at bs) at b bs) (name_at at b bs) ≡ name_at at b bs
letter_plain at b bs true h = ap (λ o. or_raw o at b bs) h
letter_plain at b bs false h = refl

word_read : (at b : ℕ) (w more : List ℕ) → is_letter b ≡ true → all_bytes is_name_byte w ≡ true → stops more ≡ true → word_at at (b ∷ (w ++ more)) ≡ token_before (word_token at (b ∷ w)) more
word_read at b w more letter h s =
    chosen (is_letter b) (piece_of (letter_at at b (w ++ more))) _ letter
    ∙ ap piece_of (letter_plain at b (w ++ more) (nat_eq b 114) (no_raw w more h s))
    ∙ ap (λ (q : List ℕ × List ℕ). token_before (word_token at (b ∷ q.0)) q.1) (run_front is_name_byte w more h (ends_there is_name_byte stop_no_name more s))

abbrev pub name_or_reserved : ℕ → List ℕ → Bool → Token
name_or_reserved at w r = cond r (Token.Reserved (record { at = at; text = w })) (Token.Name (record { at = at; text = w }))

plain_token : (at : ℕ) (w : List ℕ) (a b c d r : Bool) → not (a || b || c || d) ≡ true →
    cond a (Token.Literal (Literal.Bool true)) (cond b (Token.Literal (Literal.Bool false)) (cond c (Token.Literal Literal.Null) (cond d (Token.Sign Within) (name_or_reserved at w r)))) ≡ name_or_reserved at w r
plain_token at w true b c d r h = cc
plain_token at w false true c d r h = cc
plain_token at w false false true d r h = cc
plain_token at w false false false true r h = cc
plain_token at w false false false false r h = refl

plain_word : (at : ℕ) (w : List ℕ) → not (is_keyword w) ≡ true → word_token at w ≡ name_or_reserved at w (is_reserved w)
plain_word at w h = plain_token at w (bytes_eq w (codes "true")) (bytes_eq w (codes "false")) (bytes_eq w (codes "null")) (bytes_eq w (codes "in")) (is_reserved w) h

not_false : (t : Bool) → not t ≡ true → t ≡ false
not_false true h = cc
not_false false h = refl

pub name_read : (at : ℕ) (w more : List ℕ) → is_name w ≡ true → stops more ≡ true → word_at at (w ++ more) ≡ token_before (Token.Name (record { at = at; text = w })) more
name_read at [] more h s = cc
name_read at (b ∷ w) more h s =
    let parts = and_parts (is_word (b ∷ w) && not (is_keyword (b ∷ w))) (not (is_reserved (b ∷ w))) h in
    let plain = and_parts (is_word (b ∷ w)) (not (is_keyword (b ∷ w))) parts.0 in
    let bytes = and_parts (is_letter b) (all_bytes is_name_byte w) plain.0 in
    word_read at b w more bytes.0 bytes.1 s
    ∙ ap (λ t. token_before t more) (plain_word at (b ∷ w) plain.1 ∙ passed (is_reserved (b ∷ w)) _ (Token.Name (record { at = at; text = b ∷ w })) (not_false (is_reserved (b ∷ w)) parts.1))

pub reserved_read : (at : ℕ) (w more : List ℕ) → is_reserved_name w ≡ true → stops more ≡ true → word_at at (w ++ more) ≡ token_before (Token.Reserved (record { at = at; text = w })) more
reserved_read at [] more h s = cc
reserved_read at (b ∷ w) more h s =
    let parts = and_parts (is_word (b ∷ w) && not (is_keyword (b ∷ w))) (is_reserved (b ∷ w)) h in
    let plain = and_parts (is_word (b ∷ w)) (not (is_keyword (b ∷ w))) parts.0 in
    let bytes = and_parts (is_letter b) (all_bytes is_name_byte w) plain.0 in
    word_read at b w more bytes.0 bytes.1 s
    ∙ ap (λ t. token_before t more) (plain_word at (b ∷ w) plain.1 ∙ chosen (is_reserved (b ∷ w)) (Token.Reserved (record { at = at; text = b ∷ w })) _ parts.1)

pub name_is_word : (w : List ℕ) → is_name w ≡ true → is_word w ≡ true
name_is_word w h = (and_parts (is_word w) (not (is_keyword w)) (and_parts (is_word w && not (is_keyword w)) (not (is_reserved w)) h).0).0

pub reserved_is_word : (w : List ℕ) → is_reserved_name w ≡ true → is_word w ≡ true
reserved_is_word w h = (and_parts (is_word w) (not (is_keyword w)) (and_parts (is_word w && not (is_keyword w)) (is_reserved w) h).0).0

-- the names of the language's own functions
pub has_name : is_name (codes "has") ≡ true
unfolding is_control_word is_declaring_word
has_name = refl

pub all_name : is_name (codes "all") ≡ true
unfolding is_control_word is_declaring_word
all_name = refl

pub exists_name : is_name (codes "exists") ≡ true
unfolding is_control_word is_declaring_word
exists_name = refl

pub exists_one_name : is_name (codes "exists_one") ≡ true
unfolding is_control_word is_declaring_word
exists_one_name = refl

pub filter_name : is_name (codes "filter") ≡ true
unfolding is_control_word is_declaring_word
filter_name = refl

pub map_name : is_name (codes "map") ≡ true
unfolding is_control_word is_declaring_word
map_name = refl

pub true_read : (at : ℕ) (more : List ℕ) → stops more ≡ true → word_at at (codes "true" ++ more) ≡ token_before (Token.Literal (Literal.Bool true)) more
true_read at more s = word_read at 116 (codes "rue") more refl refl s

pub false_read : (at : ℕ) (more : List ℕ) → stops more ≡ true → word_at at (codes "false" ++ more) ≡ token_before (Token.Literal (Literal.Bool false)) more
false_read at more s = word_read at 102 (codes "alse") more refl refl s

pub null_read : (at : ℕ) (more : List ℕ) → stops more ≡ true → word_at at (codes "null" ++ more) ≡ token_before (Token.Literal Literal.Null) more
null_read at more s = word_read at 110 (codes "ull") more refl refl s

pub in_read : (at : ℕ) (more : List ℕ) → stops more ≡ true → word_at at (codes "in" ++ more) ≡ token_before (Token.Sign Within) more
in_read at more s = word_read at 105 (codes "n") more refl refl s

-- ---- integers and texts

own : IsNumeralModel (λ ds. all_bytes is_digit ds ≡ true) (decimal_number 0)
own = numerals_by_fold _ (search rules) decimal_number (search rules)

stop_no_digit : (b : ℕ) → is_stop b ≡ true → is_digit b ≡ false
stop_no_digit b h = grind (arith, nat_tests)

stop_no_x : (b : ℕ) → is_stop b ≡ true → nat_eq b 120 ≡ false
stop_no_x b h = grind (arith, nat_tests)

digit_no_x : (b : ℕ) → is_digit b ≡ true → nat_eq b 120 ≡ false
digit_no_x b h = grind (arith, nat_tests)

digit_no_letter : (b : ℕ) → is_digit b ≡ true → is_letter b ≡ false
digit_no_letter b h = grind (arith, nat_tests)

no_mark : (x : ℕ) (bs : List ℕ) → nat_eq x 120 ≡ false → hex_at (x ∷ bs) ≡ None
no_mark x [] h = refl
no_mark x (b ∷ bs) h = passed (nat_eq x 120) (cond (is_hex b) (Some (b ∷ (while_front is_hex bs).0, (while_front is_hex bs).1)) None) None h

no_hex : (ds more : List ℕ) → all_bytes is_digit ds ≡ true → stops more ≡ true → hex_at (ds ++ more) ≡ None
no_hex [] [] h s = refl
no_hex [] (b ∷ bs) h s = no_mark b bs (stop_no_x b s)
no_hex (d ∷ ds) more h s = no_mark d (ds ++ more) (digit_no_x d (and_parts (is_digit d) (all_bytes is_digit ds) h).0)

digit_plain : (b : ℕ) (bs : List ℕ) (t : Bool) → hex_at bs ≡ None → cond t (or_hex (hex_at bs) b bs) (number_at b bs) ≡ number_at b bs
digit_plain b bs true h = ap (λ o. or_hex o b bs) h
digit_plain b bs false h = refl

digits_read : (at : ℕ) (ds more : List ℕ) → all_bytes is_digit ds ≡ true → 0 < length ds → stops more ≡ true → word_at at (ds ++ more) ≡ token_before (decimal_token ds) more
digits_read at [] more h some s = absurd (omega arith)
digits_read at (d ∷ ds) more h some s =
    let parts = and_parts (is_digit d) (all_bytes is_digit ds) h in
    passed (is_letter d) (piece_of (letter_at at d (ds ++ more))) _ (digit_no_letter d parts.0)
    ∙ chosen (is_digit d) (piece_of (digit_at d (ds ++ more))) _ parts.0
    ∙ ap piece_of (digit_plain d (ds ++ more) (nat_eq d 48) (no_hex ds more parts.1 s))
    ∙ ap (λ (q : List ℕ × List ℕ). token_before (decimal_token (d ∷ q.0)) q.1) (run_front is_digit ds more parts.1 (ends_there is_digit stop_no_digit more s))

fits : (n : ℕ) → n < 2 ^ 64 → saturated n ≡ n
fits n h = omega arith

pub integer_read : (at n : ℕ) (more : List ℕ) → n < 2 ^ 64 → stops more ≡ true → word_at at (decimal n ++ more) ≡ token_before (Token.Integer n) more
integer_read at n more h s =
    digits_read at (decimal n) more (digits_decimal own n h) (decimal_nonempty n h) s
    ∙ ap (λ v. token_before (Token.Integer v) more) (ap saturated (digits_value-decimal own n h) ∙ fits n h)

no_front : (o : Option (List ℕ × List ℕ)) → with_front [] o ≡ o
no_front None = refl
no_front (Some r) = refl

-- what stands before a double quote
abbrev inside : Mode → List ℕ → Option (List ℕ × List ℕ)
inside mode bs = between (next_move TextKind.Escaped 34) mode bs

escape_back : (b : ℕ) (more : List ℕ) → with_front [] (with_front (b ∷ []) (inside Mode.Plain more)) ≡ with_front (b ∷ []) (inside Mode.Plain more)
escape_back b more = no_front (with_front (b ∷ []) (inside Mode.Plain more))

plain_back : (b : ℕ) (more : List ℕ) (s q n r t : Bool) → s ≡ nat_eq b 92 → q ≡ nat_eq b 34 → n ≡ nat_eq b 10 → r ≡ nat_eq b 13 → t ≡ nat_eq b 9 →
    inside Mode.Plain (cond s (92 ∷ 92 ∷ []) (cond q (92 ∷ 34 ∷ []) (cond n (92 ∷ 110 ∷ []) (cond r (92 ∷ 114 ∷ []) (cond t (92 ∷ 116 ∷ []) (b ∷ []))))) ++ more) ≡ with_front (b ∷ []) (inside Mode.Plain more)
plain_back b more true q n r t s' q' n' r' t' = rw (eq_from b 92 (sym s')) (escape_back 92 more)
plain_back b more false true n r t s' q' n' r' t' = rw (eq_from b 34 (sym q')) (escape_back 34 more)
plain_back b more false false true r t s' q' n' r' t' = rw (eq_from b 10 (sym n')) (escape_back 10 more)
plain_back b more false false false true t s' q' n' r' t' = rw (eq_from b 13 (sym r')) (escape_back 13 more)
plain_back b more false false false false true s' q' n' r' t' = rw (eq_from b 9 (sym t')) (escape_back 9 more)
plain_back b more false false false false false s' q' n' r' t' = rw (← q', ← n', ← r', ← s') refl

byte_back : (b : ℕ) (more : List ℕ) → inside Mode.Plain (quoted_byte b ++ more) ≡ with_front (b ∷ []) (inside Mode.Plain more)
byte_back b more = plain_back b more (nat_eq b 92) (nat_eq b 34) (nat_eq b 10) (nat_eq b 13) (nat_eq b 9) refl refl refl refl refl

bytes_back : (t more : List ℕ) → inside Mode.Plain (quoted_bytes t ++ (34 ∷ more)) ≡ Some (t, more)
bytes_back [] more = refl
bytes_back (b ∷ t) more =
    ap (inside Mode.Plain) (append_assoc (quoted_byte b) (quoted_bytes t) (34 ∷ more)) ∙ byte_back b (quoted_bytes t ++ (34 ∷ more)) ∙ ap (with_front (b ∷ [])) (bytes_back t more)

pub text_read : (at : ℕ) (t more : List ℕ) → IsUtf8 t → word_at at (quoted t ++ more) ≡ token_before (Token.Literal (Literal.Text t)) more
text_read at t more u =
    ap (λ l. word_at at (34 ∷ l)) (append_assoc (quoted_bytes t) (34 ∷ []) more)
    ∙ ap (λ o. piece_of (text_found o)) (bytes_back t more) ∙ ap (λ v. token_before (Token.Literal (Literal.Text v)) more) (utf8_lossy-IsUtf8 t u)

-- ---- signs

-- a byte that begins no sign of two
lone_sign : (b : ℕ) (t : Token) → ((c : ℕ) → two_sign b c ≡ None) → one_sign b ≡ Some t → (more : List ℕ) → piece_of (sign_at b more) ≡ token_before t more
lone_sign b t two one [] = ap (λ o. piece_of (before [] o)) one
lone_sign b t two one (c ∷ bs) = ap (λ o. piece_of (or_one o b c bs)) (two c) ∙ ap (λ o. piece_of (before (c ∷ bs) o)) one

pub open_round_read : (at : ℕ) (more : List ℕ) → word_at at (codes "(" ++ more) ≡ token_before (Token.Open Round) more
open_round_read at more = lone_sign 40 (Token.Open Round) (λ c. refl) refl more

pub close_round_read : (at : ℕ) (more : List ℕ) → word_at at (codes ")" ++ more) ≡ token_before (Token.Close Round) more
close_round_read at more = lone_sign 41 (Token.Close Round) (λ c. refl) refl more

pub open_square_read : (at : ℕ) (more : List ℕ) → word_at at (codes "[" ++ more) ≡ token_before (Token.Open Square) more
open_square_read at more = lone_sign 91 (Token.Open Square) (λ c. refl) refl more

pub close_square_read : (at : ℕ) (more : List ℕ) → word_at at (codes "]" ++ more) ≡ token_before (Token.Close Square) more
close_square_read at more = lone_sign 93 (Token.Close Square) (λ c. refl) refl more

pub open_curly_read : (at : ℕ) (more : List ℕ) → word_at at (codes "{" ++ more) ≡ token_before (Token.Open Curly) more
open_curly_read at more = lone_sign 123 (Token.Open Curly) (λ c. refl) refl more

pub close_curly_read : (at : ℕ) (more : List ℕ) → word_at at (codes "}" ++ more) ≡ token_before (Token.Close Curly) more
close_curly_read at more = lone_sign 125 (Token.Close Curly) (λ c. refl) refl more

pub comma_read : (at : ℕ) (more : List ℕ) → word_at at (codes "," ++ more) ≡ token_before Token.Comma more
comma_read at more = lone_sign 44 Token.Comma (λ c. refl) refl more

pub dot_read : (at : ℕ) (more : List ℕ) → word_at at (codes "." ++ more) ≡ token_before Token.Dot more
dot_read at more = lone_sign 46 Token.Dot (λ c. refl) refl more

pub colon_read : (at : ℕ) (more : List ℕ) → word_at at (codes ":" ++ more) ≡ token_before Token.Colon more
colon_read at more = lone_sign 58 Token.Colon (λ c. refl) refl more

pub question_read : (at : ℕ) (more : List ℕ) → word_at at (codes "?" ++ more) ≡ token_before Token.Question more
question_read at more = lone_sign 63 Token.Question (λ c. refl) refl more

pub minus_read : (at : ℕ) (more : List ℕ) → word_at at (codes "-" ++ more) ≡ token_before Token.Minus more
minus_read at more = lone_sign 45 Token.Minus (λ c. refl) refl more

pub bang_read : (at : ℕ) (more : List ℕ) → begins 61 more ≡ false → word_at at (codes "!" ++ more) ≡ token_before Token.Bang more
bang_read at [] h = refl
bang_read at (c ∷ bs) h = ap (λ t. piece_of (or_one (cond t (Some (Token.Sign Ne)) None) 33 c bs)) h

-- what no `=` begins
letter_no_equals : (b : ℕ) → is_letter b ≡ true → nat_eq b 61 ≡ false
letter_no_equals b h = grind (arith, nat_tests)

digit_no_equals : (b : ℕ) → is_digit b ≡ true → nat_eq b 61 ≡ false
digit_no_equals b h = grind (arith, nat_tests)

pub word_begins : (w more : List ℕ) → is_word w ≡ true → begins 61 (w ++ more) ≡ false
word_begins [] more h = cc
word_begins (b ∷ w) more h = letter_no_equals b (and_parts (is_letter b) (all_bytes is_name_byte w) h).0

digits_begin : (ds more : List ℕ) → all_bytes is_digit ds ≡ true → 0 < length ds → begins 61 (ds ++ more) ≡ false
digits_begin [] more h some = absurd (omega arith)
digits_begin (d ∷ ds) more h some = digit_no_equals d (and_parts (is_digit d) (all_bytes is_digit ds) h).0

pub integer_begins : (n : ℕ) (more : List ℕ) → n < 2 ^ 64 → begins 61 (decimal n ++ more) ≡ false
integer_begins n more h = digits_begin (decimal n) more (digits_decimal own n h) (decimal_nonempty n h)

-- an operator of two operands in front of a space
pub operator_read : (op : BinaryOp) (at : ℕ) (more : List ℕ) → word_at at (operator op ++ (codes " " ++ more)) ≡ token_before (operator_token op) (codes " " ++ more)
operator_read Within at more = in_read at (codes " " ++ more) refl
operator_read op at more = refl

pub space_read : (at : ℕ) (more : List ℕ) → word_at at (codes " " ++ more) ≡ Some (Piece.Blank, more)
space_read at more = refl

-- ---- the tokens of a text that begins with a word

same_length : (w word more : List ℕ) → w ++ more ≡ word ++ more → length w ≡ length word
same_length w word more h = omega (arith, ap length h, length-append w more, length-append word more)

pub lexed_token : {at : ℕ} (w : List ℕ) {more : List ℕ} {t : Token} {tokens : List Lexeme} {stop : Option ℕ} → word_at at (w ++ more) ≡ token_before t more → Lexes (at + length w) more tokens stop →
    Lexes at (w ++ more) (record { at = at; token = t } ∷ tokens) stop
lexed_token {at} w {more} {t} {tokens} {stop} is d =
    let f = first_of at (w ++ more) more (Piece.Token t) is in
    token f.1 (subst (λ n. Lexes (at + n) more tokens stop) (same_length w f.0 more f.1.front) d)

pub lexed_blank : {at : ℕ} (w : List ℕ) {more : List ℕ} {tokens : List Lexeme} {stop : Option ℕ} → word_at at (w ++ more) ≡ Some (Piece.Blank, more) → Lexes (at + length w) more tokens stop → Lexes at (w ++ more) tokens stop
lexed_blank {at} w {more} {tokens} {stop} is d =
    let f = first_of at (w ++ more) more Piece.Blank is in
    blank f.1 (subst (λ n. Lexes (at + n) more tokens stop) (same_length w f.0 more f.1.front) d)

pub lexed_space : {at : ℕ} {more : List ℕ} {tokens : List Lexeme} {stop : Option ℕ} → Lexes (at + 1) more tokens stop → Lexes at (codes " " ++ more) tokens stop
lexed_space {at} {more} {tokens} {stop} d = lexed_blank (codes " ") (space_read at more) d
