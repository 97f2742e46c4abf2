-- What a reader between quotes reads is what is written there, piece by piece.
use Rattle.std.proofs.Common.{◌≡◌, ◌≢◌, ℕ, ◌+◌, ◌*◌, Bool, true, false, cond, ◌||◌, List, [], ◌∷◌, ◌++◌, Option, Some, None, inl, inr, ◌⊎◌, refl, sym, ap, ◌∙◌, subst, arith, nat_eq, append_assoc, encode_utf8}
use Rattle.std.specs.List.{flat_map, AllByRecursion}
use Rattle.std.proofs.lemmas.Bool.Decides.{nat_tests}
use Rattle.cel_tokens.specs.declared.quoted.Mode.{Mode}
use Rattle.cel_tokens.specs.declared.quoted.Added.{Added}
use Rattle.cel_tokens.specs.declared.quoted.Move.{Move}
use Rattle.cel_tokens.specs.declared.quoted.TextKind.{TextKind}
use Rattle.cel_tokens.specs.Words.{within, is_hex, is_quote, is_line_end, all_bytes, hex_value, added, with_front, moved, between, next_move, digit_moved}
use Rattle.cel_tokens.specs.QuotedText.{Escape, backslash, single_quote, double_quote, line_feed, carriage_return, tab, escape_letter, escape_value, TextPiece, point_value, IsOrdinary, MayStand, written, denoted}
use Rattle.cel_tokens.proofs.Fronts.{and_parts, chosen, passed, more_front}
use Rattle.cel_tokens.proofs.Longest.{eq_from}

not_from : (a b : ℕ) → nat_eq a b ≡ false → a ≢ b
not_from a b h e = grind (arith, nat_tests)

not_to : (a b : ℕ) → a ≢ b → nat_eq a b ≡ false
not_to a b h = grind (arith, nat_tests)

same_to : (a : ℕ) → nat_eq a a ≡ true
same_to a = grind (arith, nat_tests)

-- pieces that may stand before a closing quote
pub record Pieces (quote : ℕ) (bytes value : List ℕ) : Type 0 where
  pub pieces : List TextPiece
  pub stand : AllByRecursion (MayStand quote) pieces
  pub bytes_are : bytes ≡ flat_map written pieces ++ (quote ∷ [])
  pub value_is : value ≡ flat_map denoted pieces

one_more : (quote : ℕ) (p : TextPiece) (bytes value : List ℕ) → MayStand quote p → Pieces quote bytes value → Pieces quote (written p ++ bytes) (denoted p ++ value)
one_more quote p bytes value h r = record {
  pieces = p ∷ r.pieces;
  stand = (h, r.stand);
  bytes_are = ap (λ l. written p ++ l) r.bytes_are ∙ sym (append_assoc (written p) (flat_map written r.pieces) (quote ∷ []));
  value_is = ap (λ l. denoted p ++ l) r.value_is;
}

-- ---- what is read from each mode on

record AfterThree (q x y z : ℕ) (bytes value : List ℕ) : Type 0 where
  digit : ℕ
  rest : List ℕ
  more : List ℕ
  front : bytes ≡ digit ∷ rest
  hex : is_hex digit ≡ true
  scalar : within 0xd800 0xdfff (((x * 16 + y) * 16 + z) * 16 + hex_value digit) ≡ false
  value_is : value ≡ encode_utf8 (((x * 16 + y) * 16 + z) * 16 + hex_value digit) ++ more
  pieces : Pieces q rest more

record AfterTwo (q x y : ℕ) (bytes value : List ℕ) : Type 0 where
  digit : ℕ
  rest : List ℕ
  front : bytes ≡ digit ∷ rest
  hex : is_hex digit ≡ true
  next : AfterThree q x y (hex_value digit) rest value

record AfterOne (q x : ℕ) (bytes value : List ℕ) : Type 0 where
  digit : ℕ
  rest : List ℕ
  front : bytes ≡ digit ∷ rest
  hex : is_hex digit ≡ true
  next : AfterTwo q x (hex_value digit) rest value

record AfterNone (q : ℕ) (bytes value : List ℕ) : Type 0 where
  digit : ℕ
  rest : List ℕ
  front : bytes ≡ digit ∷ rest
  hex : is_hex digit ≡ true
  next : AfterOne q (hex_value digit) rest value

-- behind a backslash: an escape of one byte, or a code point
record Simple (q : ℕ) (bytes value : List ℕ) : Type 0 where
  escape : Escape
  rest : List ℕ
  more : List ℕ
  front : bytes ≡ escape_letter escape ∷ rest
  value_is : value ≡ escape_value escape ∷ more
  pieces : Pieces q rest more

record Point (q : ℕ) (bytes value : List ℕ) : Type 0 where
  rest : List ℕ
  front : bytes ≡ 117 ∷ rest
  next : AfterNone q rest value

abbrev Reads : ℕ → Mode → List ℕ → List ℕ → Type 0
Reads q Mode.Plain bytes value = Pieces q bytes value
Reads q Mode.Escape bytes value = Simple q bytes value ⊎ Point q bytes value
Reads q Mode.Point bytes value = AfterNone q bytes value
Reads q (Mode.Point1 x) bytes value = AfterOne q x bytes value
Reads q (Mode.Point2 x y) bytes value = AfterTwo q x y bytes value
Reads q (Mode.Point3 x y z) bytes value = AfterThree q x y z bytes value

-- ---- the piece behind a backslash

lead : (n : ℕ) → 0 * 16 + n ≡ n
lead n = omega arith

point_is : (a b c d : ℕ) → ((hex_value a * 16 + hex_value b) * 16 + hex_value c) * 16 + hex_value d ≡ point_value a b c d
point_is a b c d = ap (λ n. ((n * 16 + hex_value b) * 16 + hex_value c) * 16 + hex_value d) (sym (lead (hex_value a)))

four_hex : (a b c d : ℕ) → is_hex a ≡ true → is_hex b ≡ true → is_hex c ≡ true → is_hex d ≡ true → all_bytes is_hex (a ∷ b ∷ c ∷ d ∷ []) ≡ true
four_hex a b c d ha hb hc hd = rw (ha, hb, hc, hd) refl

after_backslash : (q : ℕ) (bytes value : List ℕ) → Simple q bytes value ⊎ Point q bytes value → Pieces q (92 ∷ bytes) value
after_backslash q bytes value (inl s) =
    subst (λ l. Pieces q (92 ∷ l) value) (sym s.front) (subst (λ v. Pieces q (92 ∷ escape_letter s.escape ∷ s.rest) v) (sym s.value_is) (one_more q (TextPiece.escape s.escape) s.rest s.more tt s.pieces))
after_backslash q bytes value (inr p) =
    let a = p.next in let b = a.next in let c = b.next in let d = c.next in
    let is = point_is a.digit b.digit c.digit d.digit in
    let digits : p.rest ≡ a.digit ∷ b.digit ∷ c.digit ∷ d.digit ∷ d.rest =
    a.front ∙ ap (λ l. a.digit ∷ l) (b.front ∙ ap (λ l. b.digit ∷ l) (c.front ∙ ap (λ l. c.digit ∷ l) d.front)) in
    let read : Pieces q (92 ∷ 117 ∷ a.digit ∷ b.digit ∷ c.digit ∷ d.digit ∷ d.rest) (encode_utf8 (point_value a.digit b.digit c.digit d.digit) ++ d.more) =
    one_more q (TextPiece.code_point a.digit b.digit c.digit d.digit) d.rest d.more
    (four_hex a.digit b.digit c.digit d.digit a.hex b.hex c.hex d.hex, ap (λ n. within 0xd800 0xdfff n) (sym is) ∙ d.scalar) d.pieces in
    subst (λ l. Pieces q (92 ∷ l) value) (sym (p.front ∙ ap (λ l. 117 ∷ l) digits))
    (subst (λ v. Pieces q (92 ∷ 117 ∷ a.digit ∷ b.digit ∷ c.digit ∷ d.digit ∷ d.rest) v) (sym (d.value_is ∙ ap (λ n. encode_utf8 n ++ d.more) is)) read)

-- ---- one byte more

abbrev Goes : ℕ → List ℕ → Type 0
Goes q bs = (mode : Mode) (u : List ℕ) → between (next_move TextKind.Escaped q) mode bs ≡ Some (u, []) → Reads q mode bs u

-- what goes on reads on
abbrev on : ℕ → List ℕ → Mode → Option (List ℕ × List ℕ)
on q bs mode = between (next_move TextKind.Escaped q) mode bs

ended_here : (q b : ℕ) (bs v : List ℕ) → b ≡ q → ◌≡◌ {A = Option (List ℕ × List ℕ)} (Some ([], bs)) (Some (v, [])) → Pieces q (b ∷ bs) v
ended_here q b bs v e h =
    let pairs : ([], bs) ≡ (v, []) = cc in
    let rest : bs ≡ [] = ap (λ (x : List ℕ × List ℕ). x.1) pairs in
    let value : v ≡ [] = sym (ap (λ (x : List ℕ × List ℕ). x.0) pairs) in
    record { pieces = []; stand = tt; bytes_are = ap (λ l. b ∷ l) rest ∙ ap (λ c. c ∷ []) e; value_is = value }

plain_step : (q b : ℕ) (bs v : List ℕ) (t e s : Bool) → nat_eq b q ≡ t → is_line_end b ≡ e → nat_eq b 92 ≡ s → Goes q bs →
    moved (cond t Move.Done (cond e Move.Stop (cond s (Move.On Mode.Escape Added.Nothing) (Move.On Mode.Plain (Added.Byte b))))) bs (on q bs) ≡ Some (v, []) → Pieces q (b ∷ bs) v
plain_step q b bs v true e s ht he hs go h = ended_here q b bs v (eq_from b q ht) h
plain_step q b bs v false true s ht he hs go h = cc
plain_step q b bs v false false true ht he hs go h =
    let f = more_front [] (on q bs Mode.Escape) v [] h in
    subst (λ c. Pieces q (c ∷ bs) v) (sym (eq_from b 92 hs)) (subst (λ u. Pieces q (92 ∷ bs) u) (sym f.2) (after_backslash q bs f.0 (go Mode.Escape f.0 f.1)))
plain_step q b bs v false false false ht he hs go h =
    let f = more_front (b ∷ []) (on q bs Mode.Plain) v [] h in
    subst (λ u. Pieces q (b ∷ bs) u) (sym f.2)
    (one_more q (TextPiece.plain b) bs f.0 (record { no_quote = not_from b q ht; no_line_end = he }, not_from b 92 hs) (go Mode.Plain f.0 f.1))

simple_step : (q b : ℕ) (bs v : List ℕ) (e : Escape) (value : ℕ) → b ≡ escape_letter e → value ≡ escape_value e → Goes q bs → with_front (value ∷ []) (on q bs Mode.Plain) ≡ Some (v, []) → Simple q (b ∷ bs) v
simple_step q b bs v e value is to go h =
    let f = more_front (value ∷ []) (on q bs Mode.Plain) v [] h in
    record { escape = e; rest = bs; more = f.0; front = ap (λ c. c ∷ bs) is; value_is = f.2 ∙ ap (λ c. c ∷ f.0) to; pieces = go Mode.Plain f.0 f.1 }

escape_step : (q b : ℕ) (bs v : List ℕ) (s d a n r t u : Bool) → nat_eq b 92 ≡ s → nat_eq b 34 ≡ d → nat_eq b 39 ≡ a → nat_eq b 110 ≡ n → nat_eq b 114 ≡ r → nat_eq b 116 ≡ t → nat_eq b 117 ≡ u → Goes q bs →
    moved (cond (s || (d || a)) (Move.On Mode.Plain (Added.Byte b)) (cond n (Move.On Mode.Plain (Added.Byte 10)) (cond r (Move.On Mode.Plain (Added.Byte 13)) (cond t (Move.On Mode.Plain (Added.Byte 9)) (cond u (Move.On Mode.Point Added.Nothing) Move.Stop))))) bs (on q bs) ≡ Some (v, []) →
    Simple q (b ∷ bs) v ⊎ Point q (b ∷ bs) v
escape_step q b bs v true d a n r t u hs hd ha hn hr ht hu go h = let is = eq_from b 92 hs in inl (simple_step q b bs v backslash b is is go h)
escape_step q b bs v false true a n r t u hs hd ha hn hr ht hu go h = let is = eq_from b 34 hd in inl (simple_step q b bs v double_quote b is is go h)
escape_step q b bs v false false true n r t u hs hd ha hn hr ht hu go h = let is = eq_from b 39 ha in inl (simple_step q b bs v single_quote b is is go h)
escape_step q b bs v false false false true r t u hs hd ha hn hr ht hu go h = inl (simple_step q b bs v line_feed 10 (eq_from b 110 hn) refl go h)
escape_step q b bs v false false false false true t u hs hd ha hn hr ht hu go h = inl (simple_step q b bs v carriage_return 13 (eq_from b 114 hr) refl go h)
escape_step q b bs v false false false false false true u hs hd ha hn hr ht hu go h = inl (simple_step q b bs v tab 9 (eq_from b 116 ht) refl go h)
escape_step q b bs v false false false false false false true hs hd ha hn hr ht hu go h =
    let f = more_front [] (on q bs Mode.Point) v [] h in
    inr (record { rest = bs; front = ap (λ c. c ∷ bs) (eq_from b 117 hu); next = subst (λ u. AfterNone q bs u) (sym f.2) (go Mode.Point f.0 f.1) })
escape_step q b bs v false false false false false false false hs hd ha hn hr ht hu go h = cc

-- a digit of a code point, in each mode
digit_step : (q b : ℕ) (bs v : List ℕ) (mode now : Mode) (t : Bool) → is_hex b ≡ t → digit_moved mode (hex_value b) ≡ Move.On now Added.Nothing → Goes q bs →
    moved (cond t (digit_moved mode (hex_value b)) Move.Stop) bs (on q bs) ≡ Some (v, []) → (is_hex b ≡ true) × Reads q now bs v
digit_step q b bs v mode now true ht is go h =
    let f = more_front [] (on q bs now) v [] (sym (ap (λ m. moved m bs (on q bs)) is) ∙ h) in
    (ht, subst (λ u. Reads q now bs u) (sym f.2) (go now f.0 f.1))
digit_step q b bs v mode now false ht is go h = cc

last_step : (q x y z b : ℕ) (bs v : List ℕ) (t s : Bool) → is_hex b ≡ t → within 0xd800 0xdfff (((x * 16 + y) * 16 + z) * 16 + hex_value b) ≡ s → Goes q bs →
    moved (cond t (cond s Move.Stop (Move.On Mode.Plain (Added.Scalar (((x * 16 + y) * 16 + z) * 16 + hex_value b)))) Move.Stop) bs (on q bs) ≡ Some (v, []) → AfterThree q x y z (b ∷ bs) v
last_step q x y z b bs v true true ht hs go h = cc
last_step q x y z b bs v true false ht hs go h =
    let f = more_front (encode_utf8 (((x * 16 + y) * 16 + z) * 16 + hex_value b)) (on q bs Mode.Plain) v [] h in
    record { digit = b; rest = bs; more = f.0; front = refl; hex = ht; scalar = hs; value_is = f.2; pieces = go Mode.Plain f.0 f.1 }
last_step q x y z b bs v false s ht hs go h = cc

step_at : (q b : ℕ) (bs v : List ℕ) (mode : Mode) → Goes q bs → on q (b ∷ bs) mode ≡ Some (v, []) → Reads q mode (b ∷ bs) v
step_at q b bs v Mode.Plain go h = plain_step q b bs v (nat_eq b q) (is_line_end b) (nat_eq b 92) refl refl refl go h
step_at q b bs v Mode.Escape go h =
    escape_step q b bs v (nat_eq b 92) (nat_eq b 34) (nat_eq b 39) (nat_eq b 110) (nat_eq b 114) (nat_eq b 116) (nat_eq b 117) refl refl refl refl refl refl refl go h
step_at q b bs v Mode.Point go h =
    let s = digit_step q b bs v Mode.Point (Mode.Point1 (hex_value b)) (is_hex b) refl refl go h in
    record { digit = b; rest = bs; front = refl; hex = s.0; next = s.1 }
step_at q b bs v (Mode.Point1 x) go h =
    let s = digit_step q b bs v (Mode.Point1 x) (Mode.Point2 x (hex_value b)) (is_hex b) refl refl go h in
    record { digit = b; rest = bs; front = refl; hex = s.0; next = s.1 }
step_at q b bs v (Mode.Point2 x y) go h =
    let s = digit_step q b bs v (Mode.Point2 x y) (Mode.Point3 x y (hex_value b)) (is_hex b) refl refl go h in
    record { digit = b; rest = bs; front = refl; hex = s.0; next = s.1 }
step_at q b bs v (Mode.Point3 x y z) go h = last_step q x y z b bs v (is_hex b) (within 0xd800 0xdfff (((x * 16 + y) * 16 + z) * 16 + hex_value b)) refl refl go h

reads : (q : ℕ) (bs : List ℕ) → Goes q bs
reads q [] mode v h = cc
reads q (b ∷ bs) mode v h = step_at q b bs v mode (reads q bs) h

-- what is read up to a closing quote that ends the bytes is written in pieces
pub read_in_pieces : (q : ℕ) (bs v : List ℕ) → between (next_move TextKind.Escaped q) Mode.Plain bs ≡ Some (v, []) → Pieces q bs v
read_in_pieces q bs v h = reads q bs Mode.Plain v h

-- ---- the other way: pieces are read

no_front : (o : Option (List ℕ × List ℕ)) → with_front [] o ≡ o
no_front None = refl
no_front (Some r) = refl

-- a byte that adds nothing
silent : (q b : ℕ) (bs : List ℕ) (mode now : Mode) → next_move TextKind.Escaped q mode b ≡ Move.On now Added.Nothing → on q (b ∷ bs) mode ≡ on q bs now
silent q b bs mode now is = ap (λ m. moved m bs (on q bs)) is ∙ no_front (on q bs now)

adds : (q b : ℕ) (bs : List ℕ) (mode now : Mode) (a : Added) → next_move TextKind.Escaped q mode b ≡ Move.On now a → on q (b ∷ bs) mode ≡ with_front (added a) (on q bs now)
adds q b bs mode now a is = ap (λ m. moved m bs (on q bs)) is

no_backslash : (q : ℕ) → is_quote q ≡ true → nat_eq 92 q ≡ false
no_backslash q h = grind (arith, nat_tests)

backslash_read : (q : ℕ) (bs : List ℕ) → is_quote q ≡ true → on q (92 ∷ bs) Mode.Plain ≡ on q bs Mode.Escape
backslash_read q bs h = silent q 92 bs Mode.Plain Mode.Escape (passed (nat_eq 92 q) Move.Done _ (no_backslash q h))

escape_read : (q : ℕ) (e : Escape) (bs : List ℕ) → on q (escape_letter e ∷ bs) Mode.Escape ≡ with_front (escape_value e ∷ []) (on q bs Mode.Plain)
escape_read q backslash bs = refl
escape_read q single_quote bs = refl
escape_read q double_quote bs = refl
escape_read q line_feed bs = refl
escape_read q carriage_return bs = refl
escape_read q tab bs = refl

point_read : (q a b c d : ℕ) (bs : List ℕ) → all_bytes is_hex (a ∷ b ∷ c ∷ d ∷ []) ≡ true → within 0xd800 0xdfff (point_value a b c d) ≡ false →
    on q (117 ∷ a ∷ b ∷ c ∷ d ∷ bs) Mode.Escape ≡ with_front (encode_utf8 (point_value a b c d)) (on q bs Mode.Plain)
point_read q a b c d bs hex scalar =
    let pa = and_parts (is_hex a) (all_bytes is_hex (b ∷ c ∷ d ∷ [])) hex in
    let pb = and_parts (is_hex b) (all_bytes is_hex (c ∷ d ∷ [])) pa.1 in
    let pc = and_parts (is_hex c) (all_bytes is_hex (d ∷ [])) pb.1 in
    let pd = and_parts (is_hex d) true pc.1 in
    let x = hex_value a in let y = hex_value b in let z = hex_value c in
    let n = ((x * 16 + y) * 16 + z) * 16 + hex_value d in
    let is : n ≡ point_value a b c d = point_is a b c d in
    silent q 117 (a ∷ b ∷ c ∷ d ∷ bs) Mode.Escape Mode.Point refl
    ∙ silent q a (b ∷ c ∷ d ∷ bs) Mode.Point (Mode.Point1 x) (chosen (is_hex a) _ Move.Stop pa.0)
    ∙ silent q b (c ∷ d ∷ bs) (Mode.Point1 x) (Mode.Point2 x y) (chosen (is_hex b) _ Move.Stop pb.0)
    ∙ silent q c (d ∷ bs) (Mode.Point2 x y) (Mode.Point3 x y z) (chosen (is_hex c) _ Move.Stop pc.0)
    ∙ adds q d bs (Mode.Point3 x y z) Mode.Plain (Added.Scalar n) (chosen (is_hex d) _ Move.Stop pd.0 ∙ passed (within 0xd800 0xdfff n) Move.Stop _ (ap (λ m. within 0xd800 0xdfff m) is ∙ scalar))
    ∙ ap (λ m. with_front (encode_utf8 m) (on q bs Mode.Plain)) is

piece_read : (q : ℕ) (p : TextPiece) (bs : List ℕ) → is_quote q ≡ true → MayStand q p → on q (written p ++ bs) Mode.Plain ≡ with_front (denoted p) (on q bs Mode.Plain)
piece_read q (TextPiece.plain b) bs h k =
    adds q b bs Mode.Plain Mode.Plain (Added.Byte b)
    (passed (nat_eq b q) Move.Done _ (not_to b q k.0.no_quote) ∙ passed (is_line_end b) Move.Stop _ k.0.no_line_end ∙ passed (nat_eq b 92) (Move.On Mode.Escape Added.Nothing) _ (not_to b 92 k.1))
piece_read q (TextPiece.escape e) bs h k = backslash_read q (escape_letter e ∷ bs) h ∙ escape_read q e bs
piece_read q (TextPiece.code_point a b c d) bs h k = backslash_read q (117 ∷ a ∷ b ∷ c ∷ d ∷ bs) h ∙ point_read q a b c d bs k.0 k.1

pub pieces_read : (q : ℕ) (ps : List TextPiece) → is_quote q ≡ true → AllByRecursion (MayStand q) ps →
    between (next_move TextKind.Escaped q) Mode.Plain (flat_map written ps ++ (q ∷ [])) ≡ Some (flat_map denoted ps, [])
pieces_read q [] h k = ap (λ m. moved m [] (on q [])) (chosen (nat_eq q q) Move.Done _ (same_to q))
pieces_read q (p ∷ ps) h k =
    ap (λ l. on q l Mode.Plain) (append_assoc (written p) (flat_map written ps) (q ∷ [])) ∙ piece_read q p (flat_map written ps ++ (q ∷ [])) h k.0 ∙ ap (with_front (denoted p)) (pieces_read q ps h k.1)

-- ---- raw texts

pub record RawBytes (q : ℕ) (bytes value : List ℕ) : Type 0 where
  pub stand : AllByRecursion (IsOrdinary q) value
  pub bytes_are : bytes ≡ value ++ (q ∷ [])

raw_step : (q b : ℕ) (bs v : List ℕ) (t e : Bool) → nat_eq b q ≡ t → is_line_end b ≡ e → ((u : List ℕ) → between (next_move TextKind.Raw q) Mode.Plain bs ≡ Some (u, []) → RawBytes q bs u) →
    moved (cond t Move.Done (cond e Move.Stop (Move.On Mode.Plain (Added.Byte b)))) bs (λ m. between (next_move TextKind.Raw q) m bs) ≡ Some (v, []) → RawBytes q (b ∷ bs) v
raw_step q b bs v true e ht he go h =
    let pairs : ([], bs) ≡ (v, []) = cc in
    let rest : bs ≡ [] = ap (λ (x : List ℕ × List ℕ). x.1) pairs in
    let value : [] ≡ v = ap (λ (x : List ℕ × List ℕ). x.0) pairs in
    subst (λ u. RawBytes q (b ∷ bs) u) value (record { stand = tt; bytes_are = ap (λ l. b ∷ l) rest ∙ ap (λ c. c ∷ []) (eq_from b q ht) })
raw_step q b bs v false true ht he go h = cc
raw_step q b bs v false false ht he go h =
    let f = more_front (b ∷ []) (between (next_move TextKind.Raw q) Mode.Plain bs) v [] h in
    let r = go f.0 f.1 in
    subst (λ u. RawBytes q (b ∷ bs) u) (sym f.2) (record { stand = (record { no_quote = not_from b q ht; no_line_end = he }, r.stand); bytes_are = ap (λ l. b ∷ l) r.bytes_are })

pub read_raw : (q : ℕ) (bs v : List ℕ) → between (next_move TextKind.Raw q) Mode.Plain bs ≡ Some (v, []) → RawBytes q bs v
read_raw q [] v h = cc
read_raw q (b ∷ bs) v h = raw_step q b bs v (nat_eq b q) (is_line_end b) refl refl (read_raw q bs) h

pub raw_read : (q : ℕ) (v : List ℕ) → AllByRecursion (IsOrdinary q) v → between (next_move TextKind.Raw q) Mode.Plain (v ++ (q ∷ [])) ≡ Some (v, [])
raw_read q [] k = ap (λ m. moved m [] (λ n. between (next_move TextKind.Raw q) n [])) (chosen (nat_eq q q) Move.Done _ (same_to q))
raw_read q (b ∷ v) k =
    ap (λ m. moved m (v ++ (q ∷ [])) (λ n. between (next_move TextKind.Raw q) n (v ++ (q ∷ []))))
    (passed (nat_eq b q) Move.Done _ (not_to b q k.0.no_quote) ∙ passed (is_line_end b) Move.Stop _ k.0.no_line_end)
    ∙ ap (with_front (b ∷ [])) (raw_read q v k.1)
