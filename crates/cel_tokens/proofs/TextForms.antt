-- A word is a text exactly where it is written as one.
use Rattle.std.proofs.Common.{◌≡◌, ℕ, ◌+◌, ◌<◌, Bool, true, false, cond, ◌&&◌, ◌||◌, List, [], ◌∷◌, ◌++◌, length, get_or, Option, Some, None, inl, inr, ◌⊎◌, refl, sym, ap, ◌∙◌, subst, arith, nat_eq, append_assoc, append-nil, length-append, encode_utf8, codes, IsUtf8}
use Rattle.std.specs.Bool.{⊤}
use Rattle.std.specs.Char.{IsScalar}
use Rattle.std.specs.List.{flat_map, AllByRecursion}
use Rattle.std.specs.Str.{bytes_eq}
use Rattle.std.specs.Str.Lossy.{utf8_lossy}
use Rattle.std.proofs.Math.Seq.{take-append_seam, drop-append-add, get_or-append_seam}
use Rattle.std.proofs.lemmas.Bool.Decides.{nat_tests}
use Rattle.std.proofs.lemmas.Str.{IsUtf8-take, IsUtf8-drop, IsUtf8-append, IsUtf8-encode, IsCharBoundary-before_ascii, IsCharBoundary-after_ascii, encode_ascii, utf8_lossy-IsUtf8}
use Rattle.cel_values.specs.declared.expr.BinaryOp.TheVariants.{Or, And, Lt, Le, Gt, Ge, Eq, Ne, Within, Add, Mul, Rem}
use Rattle.cel_tokens.specs.declared.token.Bracket.TheVariants.{Round, Square, Curly}
use Rattle.cel_tokens.specs.declared.token.Literal.{Literal}
use Rattle.cel_tokens.specs.declared.token.Token.{Token}
use Rattle.cel_tokens.specs.declared.token.Piece.{Piece}
use Rattle.cel_tokens.specs.declared.token.Lexeme.{Lexeme}
use Rattle.cel_tokens.specs.declared.quoted.Mode.{Mode}
use Rattle.cel_tokens.specs.declared.quoted.TextKind.{TextKind}
use Rattle.cel_tokens.specs.Words.{form, within, is_letter, is_digit, is_name_byte, is_quote, is_blank, is_hex, all_bytes, next_move, between, word_token, decimal_token, hex_token, one_sign, two_sign, bracket_sign, mark_sign, is_reserved, is_in_line, closed_at, closed, raw_form, hex_form, letter_form, digit_form, quote_form, sign_form, slash_form, blank_form, as_piece, hex_value}
use Rattle.cel_tokens.specs.Lexing.{Lexes, ended, stopped, blank, token}
use Rattle.cel_tokens.specs.QuotedText.{Escape, backslash, single_quote, double_quote, line_feed, carriage_return, tab, escape_letter, escape_value, TextPiece, point_value, MayStand, written, denoted, IsTextWord, StandsAt, IsAsWritten}
use Rattle.cel_tokens.proofs.Fronts.{either, and_parts}
use Rattle.cel_tokens.proofs.Longest.{eq_from}
use Rattle.cel_tokens.proofs.Spelled.{name_or_reserved}
use Rattle.cel_tokens.proofs.Pieces.{read_in_pieces, pieces_read, read_raw, raw_read}

-- ---- each word that is read as a text is written as one

-- a fact of the text that a token is, if it is one
abbrev OfText : (List ℕ → Type 0) → Token → Type 0
OfText P (Token.Literal (Literal.Text t)) = P t
OfText P _ = ⊤

abbrev IfText : (List ℕ → Type 0) → Option Token → Type 0
IfText P None = ⊤
IfText P (Some t) = OfText P t

abbrev IfTextPiece : (List ℕ → Type 0) → Option Piece → Type 0
IfTextPiece P None = ⊤
IfTextPiece P (Some Piece.Blank) = ⊤
IfTextPiece P (Some (Piece.Token t)) = OfText P t

-- a text that this word is written as
abbrev WrittenIn : List ℕ → List ℕ → Type 0
WrittenIn word t = (value : List ℕ) × IsTextWord word value × (t ≡ utf8_lossy value)

given : {A : Type 0} (P : A → Type 0) (t : Bool) (x y : A) → (t ≡ true → P x) → P y → P (cond t x y)
given P true x y p q = p refl
given P false x y p q = q

closed_end : (P : List ℕ → Type 0) (v rest : List ℕ) → ((u : List ℕ) → ◌≡◌ {A = Option (List ℕ × List ℕ)} (Some (v, rest)) (Some (u, [])) → P (utf8_lossy u)) → IfText P (closed_at v rest)
closed_end P v [] h = h v refl
closed_end P v (b ∷ bs) h = tt

closed_text : (P : List ℕ → Type 0) (o : Option (List ℕ × List ℕ)) → ((u : List ℕ) → o ≡ Some (u, []) → P (utf8_lossy u)) → IfText P (closed o)
closed_text P None h = tt
closed_text P (Some r) h = closed_end P r.0 r.1 h

quoted_text : (q : ℕ) (w : List ℕ) → is_quote q ≡ true → IfText (WrittenIn (q ∷ w)) (quote_form q w)
quoted_text q w h = closed_text (WrittenIn (q ∷ w)) (between (next_move TextKind.Escaped q) Mode.Plain w) (λ v is.
    let p = read_in_pieces q w v is in
    (v, inl (record { quote = q; pieces = p.pieces; is_quoted = h; stand = p.stand; word_is = ap (λ l. q ∷ l) p.bytes_are; value_is = p.value_is }), refl))

raw_text : (w : List ℕ) → IfText (WrittenIn (114 ∷ w)) (raw_form w)
raw_text [] = tt
raw_text (q ∷ w) =
    let P = WrittenIn (114 ∷ q ∷ w) in
    let o = between (next_move TextKind.Raw q) Mode.Plain w in
    given (IfText P) (is_quote q) (closed o) None (λ h. closed_text P o (λ v is.
    let r = read_raw q w v is in
    (v, inr (record { quote = q; is_quoted = h; stand = r.stand; word_is = ap (λ l. 114 ∷ q ∷ l) r.bytes_are }), refl))) tt

word_no_text : (P : List ℕ → Type 0) (at : ℕ) (w : List ℕ) (a b c d r : Bool) →
    OfText P (cond a (Token.Literal (Literal.Bool true)) (cond b (Token.Literal (Literal.Bool false)) (cond c (Token.Literal Literal.Null) (cond d (Token.Sign Within) (name_or_reserved at w r)))))
word_no_text P at w true b c d r = tt
word_no_text P at w false true c d r = tt
word_no_text P at w false false true d r = tt
word_no_text P at w false false false true r = tt
word_no_text P at w false false false false true = tt
word_no_text P at w false false false false false = tt

raw_behind : (b : ℕ) (w : List ℕ) (t : Bool) → nat_eq b 114 ≡ t → IfText (WrittenIn (b ∷ w)) (cond t (raw_form w) None)
raw_behind b w true h = subst (λ c. IfText (WrittenIn (c ∷ w)) (raw_form w)) (sym (eq_from b 114 h)) (raw_text w)
raw_behind b w false h = tt

letter_text : (at b : ℕ) (w : List ℕ) → IfText (WrittenIn (b ∷ w)) (letter_form at b w)
letter_text at b w =
    let P = WrittenIn (b ∷ w) in
    either (IfText P) (all_bytes is_name_byte w) (Some (word_token at (b ∷ w))) (cond (nat_eq b 114) (raw_form w) None)
    (word_no_text P at (b ∷ w) (bytes_eq (b ∷ w) (codes "true")) (bytes_eq (b ∷ w) (codes "false")) (bytes_eq (b ∷ w) (codes "null")) (bytes_eq (b ∷ w) (codes "in")) (is_reserved (b ∷ w)))
    (raw_behind b w (nat_eq b 114) refl)

hex_text : (P : List ℕ → Type 0) (w : List ℕ) → IfText P (hex_form w)
hex_text P [] = tt
hex_text P (x ∷ []) = tt
hex_text P (x ∷ h ∷ w) =
    let found = cond (all_bytes is_hex (h ∷ w)) (Some (hex_token (h ∷ w))) None in
    either (IfText P) (nat_eq x 120) found None (either (IfText P) (all_bytes is_hex (h ∷ w)) (Some (hex_token (h ∷ w))) None tt tt) tt

digit_text : (P : List ℕ → Type 0) (b : ℕ) (w : List ℕ) → IfText P (digit_form b w)
digit_text P b w =
    either (IfText P) (all_bytes is_digit w) (Some (decimal_token (b ∷ w))) (cond (nat_eq b 48) (hex_form w) None) tt
    (either (IfText P) (nat_eq b 48) (hex_form w) None (hex_text P w) tt)

or_sign : (P : List ℕ → Type 0) (t : Bool) (s : Token) (o : Option Token) → OfText P s → IfText P o → IfText P (cond t (Some s) o)
or_sign P t s o = either (IfText P) t (Some s) o

bracket_text : (P : List ℕ → Type 0) (b : ℕ) → IfText P (bracket_sign b)
bracket_text P b =
    or_sign P (nat_eq b 40) (Token.Open Round) _ tt (or_sign P (nat_eq b 41) (Token.Close Round) _ tt (or_sign P (nat_eq b 91) (Token.Open Square) _ tt
    (or_sign P (nat_eq b 93) (Token.Close Square) _ tt (or_sign P (nat_eq b 123) (Token.Open Curly) _ tt (or_sign P (nat_eq b 125) (Token.Close Curly) None tt tt)))))

mark_text : (P : List ℕ → Type 0) (b : ℕ) → IfText P (mark_sign b)
mark_text P b =
    or_sign P (nat_eq b 63) Token.Question _ tt (or_sign P (nat_eq b 58) Token.Colon _ tt (or_sign P (nat_eq b 33) Token.Bang _ tt
    (or_sign P (nat_eq b 46) Token.Dot _ tt (or_sign P (nat_eq b 44) Token.Comma (bracket_sign b) tt (bracket_text P b)))))

one_text : (P : List ℕ → Type 0) (b : ℕ) → IfText P (one_sign b)
one_text P b =
    or_sign P (nat_eq b 60) (Token.Sign Lt) _ tt (or_sign P (nat_eq b 62) (Token.Sign Gt) _ tt (or_sign P (nat_eq b 43) (Token.Sign Add) _ tt
    (or_sign P (nat_eq b 45) Token.Minus _ tt (or_sign P (nat_eq b 42) (Token.Sign Mul) _ tt (or_sign P (nat_eq b 37) (Token.Sign Rem) (mark_sign b) tt (mark_text P b))))))

two_text : (P : List ℕ → Type 0) (b c : ℕ) → IfText P (two_sign b c)
two_text P b c =
    or_sign P (nat_eq b 124 && nat_eq c 124) (Token.Sign Or) _ tt (or_sign P (nat_eq b 38 && nat_eq c 38) (Token.Sign And) _ tt (or_sign P (nat_eq b 61 && nat_eq c 61) (Token.Sign Eq) _ tt
    (or_sign P (nat_eq b 33 && nat_eq c 61) (Token.Sign Ne) _ tt (or_sign P (nat_eq b 60 && nat_eq c 61) (Token.Sign Le) _ tt (or_sign P (nat_eq b 62 && nat_eq c 61) (Token.Sign Ge) None tt tt)))))

sign_text : (P : List ℕ → Type 0) (b : ℕ) (w : List ℕ) → IfText P (sign_form b w)
sign_text P b [] = one_text P b
sign_text P b (c ∷ []) = two_text P b c
sign_text P b (c ∷ d ∷ w) = tt

piece_text : (P : List ℕ → Type 0) (o : Option Token) → IfText P o → IfTextPiece P (as_piece o)
piece_text P None h = tt
piece_text P (Some t) h = h

slash_text : (P : List ℕ → Type 0) (w : List ℕ) → IfTextPiece P (slash_form w)
slash_text P [] = tt
slash_text P (c ∷ w) = either (IfTextPiece P) (nat_eq c 47 && all_bytes is_in_line w) (Some Piece.Blank) None tt tt

blank_text : (P : List ℕ → Type 0) (w : List ℕ) → IfTextPiece P (blank_form w)
blank_text P [] = tt
blank_text P (c ∷ w) = tt

form_text : (at : ℕ) (w : List ℕ) → IfTextPiece (WrittenIn w) (form at w)
form_text at [] = tt
form_text at (b ∷ w) =
    let P = WrittenIn (b ∷ w) in
    either (IfTextPiece P) (is_letter b) (as_piece (letter_form at b w)) _ (piece_text P (letter_form at b w) (letter_text at b w))
    (either (IfTextPiece P) (is_digit b) (as_piece (digit_form b w)) _ (piece_text P (digit_form b w) (digit_text P b w))
    (given (IfTextPiece P) (is_quote b) (as_piece (quote_form b w)) _ (λ h. piece_text P (quote_form b w) (quoted_text b w h))
    (either (IfTextPiece P) (is_blank b) (blank_form w) _ (blank_text P w)
    (either (IfTextPiece P) (nat_eq b 47) (slash_form w) (as_piece (sign_form b w)) (slash_text P w) (piece_text P (sign_form b w) (sign_text P b w))))))

pub only_written : (at : ℕ) (word text : List ℕ) → form at word ≡ Some (Piece.Token (Token.Literal (Literal.Text text))) → (value : List ℕ) × IsTextWord word value × (text ≡ utf8_lossy value)
only_written at word text is = subst (IfTextPiece (WrittenIn word)) is (form_text at word)

-- ---- each word that is written as a text is read as one

either_quote : (q : ℕ) (s t : Bool) → nat_eq q 34 ≡ s → nat_eq q 39 ≡ t → (s || t) ≡ true → (q ≡ 34) ⊎ (q ≡ 39)
either_quote q true t hs ht h = inl (eq_from q 34 hs)
either_quote q false true hs ht h = inr (eq_from q 39 ht)
either_quote q false false hs ht h = cc

quote_is : (q : ℕ) → is_quote q ≡ true → (q ≡ 34) ⊎ (q ≡ 39)
quote_is q h = either_quote q (nat_eq q 34) (nat_eq q 39) refl refl h

quote_read : (at q : ℕ) (w : List ℕ) → (q ≡ 34) ⊎ (q ≡ 39) → form at (q ∷ w) ≡ as_piece (quote_form q w)
quote_read at q w (inl e) = subst (λ c. form at (c ∷ w) ≡ as_piece (quote_form c w)) (sym e) refl
quote_read at q w (inr e) = subst (λ c. form at (c ∷ w) ≡ as_piece (quote_form c w)) (sym e) refl

raw_word : (at q : ℕ) (w : List ℕ) → (q ≡ 34) ⊎ (q ≡ 39) → form at (114 ∷ q ∷ w) ≡ as_piece (closed (between (next_move TextKind.Raw q) Mode.Plain w))
raw_word at q w (inl e) = subst (λ c. form at (114 ∷ c ∷ w) ≡ as_piece (closed (between (next_move TextKind.Raw c) Mode.Plain w))) (sym e) refl
raw_word at q w (inr e) = subst (λ c. form at (114 ∷ c ∷ w) ≡ as_piece (closed (between (next_move TextKind.Raw c) Mode.Plain w))) (sym e) refl

pub each_written : (at : ℕ) (word value : List ℕ) → IsTextWord word value → form at word ≡ Some (Piece.Token (Token.Literal (Literal.Text (utf8_lossy value))))
each_written at word value (inl t) =
    ap (form at) t.word_is ∙ quote_read at t.quote (flat_map written t.pieces ++ (t.quote ∷ [])) (quote_is t.quote t.is_quoted)
    ∙ ap (λ o. as_piece (closed o)) (pieces_read t.quote t.pieces t.is_quoted t.stand)
    ∙ ap (λ v. Some (Piece.Token (Token.Literal (Literal.Text (utf8_lossy v))))) (sym t.value_is)
each_written at word value (inr t) =
    ap (form at) t.word_is ∙ raw_word at t.quote (value ++ (t.quote ∷ [])) (quote_is t.quote t.is_quoted)
    ∙ ap (λ o. as_piece (closed o)) (raw_read t.quote value t.stand)

-- ---- nothing is lost of UTF-8

record Split (front back : List ℕ) : Type 0 where
  left : IsUtf8 front
  right : IsUtf8 back

at_ascii : (front back : List ℕ) (b : ℕ) → b < 128 → IsUtf8 (front ++ (b ∷ back)) → Split front back
at_ascii front back b small h =
    let all = front ++ (b ∷ back) in
    let here : get_or all (length front) 0 ≡ b = get_or-append_seam front b back 0 in
    let inside : length front < length all = omega (arith, length-append front (b ∷ back)) in
    let low : get_or all (length front) 0 < 128 = omega (arith, here) in
    record {
      left = subst IsUtf8 (take-append_seam front (b ∷ back)) (IsUtf8-take all (length front) h (IsCharBoundary-before_ascii all (length front) inside low));
      right = subst IsUtf8 (drop-append-add front (b ∷ back) 1) (IsUtf8-drop all (length front + 1) h (IsCharBoundary-after_ascii all (length front) h inside low));
    }

past_ascii : (b : ℕ) (back : List ℕ) → b < 128 → IsUtf8 (b ∷ back) → IsUtf8 back
past_ascii b back small h = (at_ascii [] back b small h).right

one_ascii : (b : ℕ) → b < 128 → IsUtf8 (b ∷ [])
one_ascii b small = subst IsUtf8 (encode_ascii b small) (IsUtf8-encode b (grind (arith, nat_tests)))

quote_small : (q : ℕ) → is_quote q ≡ true → q < 128
quote_small q h = grind (arith, nat_tests)

hex_small : (b : ℕ) → is_hex b ≡ true → b < 128
hex_small b h = grind (arith, nat_tests)

letter_small : (e : Escape) → escape_letter e < 128
letter_small backslash = omega arith
letter_small single_quote = omega arith
letter_small double_quote = omega arith
letter_small line_feed = omega arith
letter_small carriage_return = omega arith
letter_small tab = omega arith

value_small : (e : Escape) → escape_value e < 128
value_small backslash = omega arith
value_small single_quote = omega arith
value_small double_quote = omega arith
value_small line_feed = omega arith
value_small carriage_return = omega arith
value_small tab = omega arith

digit_low : (b : ℕ) → is_hex b ≡ true → hex_value b < 16
digit_low b h = grind (arith, nat_tests)

scalar_from : (n : ℕ) → n < 65536 → within 0xd800 0xdfff n ≡ false → IsScalar n
scalar_from n small h = grind (arith, nat_tests)

point_scalar : (a b c d : ℕ) → all_bytes is_hex (a ∷ b ∷ c ∷ d ∷ []) ≡ true → within 0xd800 0xdfff (point_value a b c d) ≡ false → IsScalar (point_value a b c d)
point_scalar a b c d hex scalar =
    let pa = and_parts (is_hex a) (all_bytes is_hex (b ∷ c ∷ d ∷ [])) hex in
    let pb = and_parts (is_hex b) (all_bytes is_hex (c ∷ d ∷ [])) pa.1 in
    let pc = and_parts (is_hex c) (all_bytes is_hex (d ∷ [])) pb.1 in
    let pd = and_parts (is_hex d) true pc.1 in
    scalar_from (point_value a b c d) (omega (arith, digit_low a pa.0, digit_low b pb.0, digit_low c pc.0, digit_low d pd.0)) scalar

-- behind a run of plain bytes
pieces_exact : (q : ℕ) (ps : List TextPiece) (run : List ℕ) → q < 128 → AllByRecursion (MayStand q) ps → IsUtf8 (run ++ (flat_map written ps ++ (q ∷ []))) → IsUtf8 (run ++ flat_map denoted ps)
pieces_exact q [] run small k h = subst IsUtf8 (sym (append-nil run)) (at_ascii run [] q small h).left
pieces_exact q (TextPiece.plain b ∷ ps) run small k h =
    subst IsUtf8 (append_assoc run (b ∷ []) (flat_map denoted ps))
    (pieces_exact q ps (run ++ (b ∷ [])) small k.1 (subst IsUtf8 (sym (append_assoc run (b ∷ []) (flat_map written ps ++ (q ∷ [])))) h))
pieces_exact q (TextPiece.escape e ∷ ps) run small k h =
    let rest = flat_map written ps ++ (q ∷ []) in
    let s = at_ascii run (escape_letter e ∷ rest) 92 (omega arith) h in
    let more = pieces_exact q ps [] small k.1 (past_ascii (escape_letter e) rest (letter_small e) s.right) in
    IsUtf8-append run (escape_value e ∷ flat_map denoted ps) s.left (IsUtf8-append (escape_value e ∷ []) (flat_map denoted ps) (one_ascii (escape_value e) (value_small e)) more)
pieces_exact q (TextPiece.code_point a b c d ∷ ps) run small k h =
    let rest = flat_map written ps ++ (q ∷ []) in
    let hex = k.0.0 in
    let pa = and_parts (is_hex a) (all_bytes is_hex (b ∷ c ∷ d ∷ [])) hex in
    let pb = and_parts (is_hex b) (all_bytes is_hex (c ∷ d ∷ [])) pa.1 in
    let pc = and_parts (is_hex c) (all_bytes is_hex (d ∷ [])) pb.1 in
    let pd = and_parts (is_hex d) true pc.1 in
    let s = at_ascii run (117 ∷ a ∷ b ∷ c ∷ d ∷ rest) 92 (omega arith) h in
    let behind_u = past_ascii 117 (a ∷ b ∷ c ∷ d ∷ rest) (omega arith) s.right in
    let behind_a = past_ascii a (b ∷ c ∷ d ∷ rest) (hex_small a pa.0) behind_u in
    let behind_b = past_ascii b (c ∷ d ∷ rest) (hex_small b pb.0) behind_a in
    let behind_c = past_ascii c (d ∷ rest) (hex_small c pc.0) behind_b in
    let behind_d = past_ascii d rest (hex_small d pd.0) behind_c in
    let point = encode_utf8 (point_value a b c d) in
    IsUtf8-append run (point ++ flat_map denoted ps) s.left
    (IsUtf8-append point (flat_map denoted ps) (IsUtf8-encode (point_value a b c d) (point_scalar a b c d hex k.0.1)) (pieces_exact q ps [] small k.1 behind_d))

value_exact : (before word after value : List ℕ) → IsUtf8 (before ++ (word ++ after)) → IsTextWord word value → IsUtf8 value
value_exact before word after value h (inl t) =
    let q = t.quote in
    let small = quote_small q t.is_quoted in
    let body = flat_map written t.pieces in
    let is : word ++ after ≡ q ∷ (body ++ (q ∷ after)) = ap (λ w. w ++ after) t.word_is ∙ ap (λ l. q ∷ l) (append_assoc body (q ∷ []) after) in
    let behind = (at_ascii before (body ++ (q ∷ after)) q small (subst (λ l. IsUtf8 (before ++ l)) is h)).right in
    let inner = (at_ascii body after q small behind).left in
    subst IsUtf8 (sym t.value_is) (pieces_exact q t.pieces [] small t.stand (IsUtf8-append body (q ∷ []) inner (one_ascii q small)))
value_exact before word after value h (inr t) =
    let q = t.quote in
    let small = quote_small q t.is_quoted in
    let is : word ++ after ≡ 114 ∷ q ∷ (value ++ (q ∷ after)) = ap (λ w. w ++ after) t.word_is ∙ ap (λ l. 114 ∷ q ∷ l) (append_assoc value (q ∷ []) after) in
    let behind = (at_ascii before (q ∷ (value ++ (q ∷ after))) 114 (omega arith) (subst (λ l. IsUtf8 (before ++ l)) is h)).right in
    (at_ascii value after q small (past_ascii q (value ++ (q ∷ after)) small behind)).left

-- ---- the tokens of a text

stands_at : (text before word after t : List ℕ) (at : ℕ) → IsUtf8 text → text ≡ before ++ (word ++ after) → length before ≡ at → WrittenIn word t → StandsAt text at t
stands_at text before word after t at u front place w =
    let exact = utf8_lossy-IsUtf8 w.0 (value_exact before word after w.0 (subst IsUtf8 front u) w.1) in
    record { before = before; word = word; after = after; front = front; place = place; is = subst (IsTextWord word) (sym (w.2 ∙ exact)) w.1 }

token_written : (text before word after : List ℕ) (at : ℕ) (t : Token) → IsUtf8 text → text ≡ before ++ (word ++ after) → length before ≡ at → form at word ≡ Some (Piece.Token t) → IsAsWritten text (record { at = at; token = t })
token_written text before word after at (Token.Literal (Literal.Text t)) u front place is = stands_at text before word after t at u front place (only_written at word t is)
token_written text before word after at (Token.Literal Literal.Null) u front place is = tt
token_written text before word after at (Token.Literal (Literal.Bool b)) u front place is = tt
token_written text before word after at (Token.Name n) u front place is = tt
token_written text before word after at (Token.Reserved n) u front place is = tt
token_written text before word after at (Token.Integer n) u front place is = tt
token_written text before word after at (Token.Sign op) u front place is = tt
token_written text before word after at Token.Minus u front place is = tt
token_written text before word after at Token.Bang u front place is = tt
token_written text before word after at Token.Question u front place is = tt
token_written text before word after at Token.Colon u front place is = tt
token_written text before word after at Token.Dot u front place is = tt
token_written text before word after at Token.Comma u front place is = tt
token_written text before word after at (Token.Open b) u front place is = tt
token_written text before word after at (Token.Close b) u front place is = tt

further : (text before word after rest : List ℕ) → text ≡ before ++ rest → rest ≡ word ++ after → text ≡ (before ++ word) ++ after
further text before word after rest h k = h ∙ ap (λ l. before ++ l) k ∙ sym (append_assoc before word after)

place_further : (before word : List ℕ) (at : ℕ) → length before ≡ at → length (before ++ word) ≡ at + length word
place_further before word at h = omega (arith, length-append before word)

lexed_as_written : {at : ℕ} {rest : List ℕ} {tokens : List Lexeme} {stop : Option ℕ} → Lexes at rest tokens stop →
    (text before : List ℕ) → IsUtf8 text → text ≡ before ++ rest → length before ≡ at → AllByRecursion (IsAsWritten text) tokens
lexed_as_written ended text before u front place = tt
lexed_as_written (stopped less none) text before u front place = tt
lexed_as_written {at} {rest} (blank {word = word} {rest = after} w d) text before u front place =
    lexed_as_written d text (before ++ word) u (further text before word after rest front w.front) (place_further before word at place)
lexed_as_written {at} {rest} (token {word = word} {rest = after} {t = t} w d) text before u front place = (
  token_written text before word after at t u (front ∙ ap (λ l. before ++ l) w.front) place w.is,
  lexed_as_written d text (before ++ word) u (further text before word after rest front w.front) (place_further before word at place),
)

pub exactly_written : (text : List ℕ) (tokens : List Lexeme) (stop : Option ℕ) → IsUtf8 text → Lexes 0 text tokens stop → AllByRecursion (IsAsWritten text) tokens
exactly_written text tokens stop u d = lexed_as_written d text [] u refl refl
