-- The first word of a text is the longest that fits.
use Rattle.std.proofs.Common.{◌≡◌, ℕ, suc, ◌≤◌, Bool, true, false, cond, ◌&&◌, ◌||◌, List, [], ◌∷◌, ◌++◌, length, Option, Some, None, refl, sym, ap, ◌∙◌, subst, arith, length-append, nat_eq, ◌⊎◌, inl, inr}
use Rattle.std.proofs.lemmas.Bool.Decides.{nat_tests}
use Rattle.cel_values.specs.declared.expr.BinaryOp.TheVariants.{Div}
use Rattle.cel_tokens.specs.declared.token.Token.{Token}
use Rattle.cel_tokens.specs.declared.token.Piece.{Piece}
use Rattle.cel_tokens.specs.declared.quoted.Mode.{Mode}
use Rattle.cel_tokens.specs.declared.quoted.Move.{Move}
use Rattle.cel_tokens.specs.declared.quoted.TextKind.{TextKind}
use Rattle.cel_tokens.specs.Words.{is_letter, is_digit, is_name_byte, is_hex, is_quote, is_blank, is_in_line, all_bytes, next_move, between, decimal_token, hex_token, text_token, word_token, closed_at, closed, raw_form, hex_form, one_sign, two_sign, letter_form, digit_form, quote_form, sign_form, slash_form, blank_form, as_piece, form}
use Rattle.cel_tokens.specs.FirstWord.{while_front, raw_at, hex_at, name_at, number_at, or_raw, or_hex, before, or_one, quoted, letter_at, digit_at, quote_at, sign_at, slash_at, piece_of, word_at, IsFirst}
use Rattle.cel_tokens.proofs.Fronts.{and_parts, front_cuts, front_all, front_longest, between_cuts, between_one}

-- the same behind a first byte
abbrev IsBest : (List ℕ → Option Token) → List ℕ → Option (Token × List ℕ) → Type 0
IsBest f bs None = (w r : List ℕ) (t : Token) → bs ≡ w ++ r → f w ≡ Some t → ⊥
IsBest f bs (Some found) = (word : List ℕ) × (bs ≡ word ++ found.1) × (f word ≡ Some found.0) × ((w r : List ℕ) (t : Token) → bs ≡ w ++ r → f w ≡ Some t → length w ≤ length word)

no_empty : (x : ℕ) (w r : List ℕ) → [] ≡ (x ∷ w) ++ r → ⊥
no_empty x w r h = cc

same_rest : (a b r s : List ℕ) → a ++ r ≡ b ++ s → r ≡ s → length a ≡ length b
same_rest a b r s h k =
    let long : length (a ++ r) ≡ length (b ++ s) = ap length h in
    let rests : length r ≡ length s = ap length k in
    omega (arith, length-append a r, length-append b s)

-- ---- between quotes

closed_is : (v rest : List ℕ) (t : Token) → closed_at v rest ≡ Some t → (rest ≡ []) × (t ≡ text_token v)
closed_is v [] t h = (refl, cc)
closed_is v (b ∷ bs) t h = cc

closed_some : (o : Option (List ℕ × List ℕ)) (t : Token) → closed o ≡ Some t → (v : List ℕ) × (o ≡ Some (v, [])) × (t ≡ text_token v)
closed_some None t h = cc
closed_some (Some r) t h = let c = closed_is r.0 r.1 t h in (r.0, ap (λ l. Some (r.0, l)) c.0, c.1)

-- two fronts of one text between the same quotes are as long
one_close : (next : Mode → ℕ → Move) (bs w r word rest v : List ℕ) (t : Token) → between next Mode.Plain bs ≡ Some (v, rest) → bs ≡ word ++ rest → bs ≡ w ++ r → closed (between next Mode.Plain w) ≡ Some t → length w ≡ length word
one_close next bs w r word rest v t found cut is h =
    let c = closed_some (between next Mode.Plain w) t h in
    let again : between next Mode.Plain bs ≡ Some (c.0, r) = ap (λ l. between next Mode.Plain l) is ∙ between_one next Mode.Plain w r c.0 c.1 in
    let pair : (c.0, r) ≡ (v, rest) = cc in
    same_rest w word r rest (sym is ∙ cut) (ap (λ (q : List ℕ × List ℕ). q.1) pair)

no_close : (next : Mode → ℕ → Move) (bs w r : List ℕ) (t : Token) → between next Mode.Plain bs ≡ None → bs ≡ w ++ r → closed (between next Mode.Plain w) ≡ Some t → ⊥
no_close next bs w r t none is h =
    let c = closed_some (between next Mode.Plain w) t h in
    let again : between next Mode.Plain bs ≡ Some (c.0, r) = ap (λ l. between next Mode.Plain l) is ∙ between_one next Mode.Plain w r c.0 c.1 in
    cc

quote_best_at : (b : ℕ) (bs : List ℕ) (o : Option (List ℕ × List ℕ)) → between (next_move TextKind.Escaped b) Mode.Plain bs ≡ o → IsBest (quote_form b) bs (quoted o)
quote_best_at b bs None h = λ w r t is f. no_close (next_move TextKind.Escaped b) bs w r t h is f
quote_best_at b bs (Some x) h =
    let c = between_cuts (next_move TextKind.Escaped b) bs Mode.Plain x.0 x.1 h in
    (c.0, c.1, ap closed c.2, λ w r t is f. let e = one_close (next_move TextKind.Escaped b) bs w r c.0 x.1 x.0 t h c.1 is f in omega arith)

-- ---- signs

sign_empty : (b : ℕ) (o : Option Token) → one_sign b ≡ o → IsBest (sign_form b) [] (before [] o)
sign_empty b None h = none
  where
    none : (w r : List ℕ) (t : Token) → [] ≡ w ++ r → sign_form b w ≡ Some t → ⊥
    none [] r t is f = cc
    none (x ∷ w) r t is f = cc
sign_empty b (Some s) h = ([], refl, h, long)
  where
    long : (w r : List ℕ) (t : Token) → [] ≡ w ++ r → sign_form b w ≡ Some t → length w ≤ 0
    long [] r t is f = omega arith
    long (x ∷ w) r t is f = cc

sign_one : (b c : ℕ) (bs : List ℕ) (o : Option Token) → two_sign b c ≡ None → one_sign b ≡ o → IsBest (sign_form b) (c ∷ bs) (before (c ∷ bs) o)
sign_one b c bs None two h = none
  where
    none : (w r : List ℕ) (t : Token) → c ∷ bs ≡ w ++ r → sign_form b w ≡ Some t → ⊥
    none [] r t is f = cc
    none (x ∷ []) r t is f = let e : c ≡ x = cc in let g : two_sign b x ≡ None = ap (λ y. two_sign b y) (sym e) ∙ two in cc
    none (x ∷ y ∷ w) r t is f = cc
sign_one b c bs (Some s) two h = ([], refl, h, long)
  where
    long : (w r : List ℕ) (t : Token) → c ∷ bs ≡ w ++ r → sign_form b w ≡ Some t → length w ≤ 0
    long [] r t is f = omega arith
    long (x ∷ []) r t is f = let e : c ≡ x = cc in let g : two_sign b x ≡ None = ap (λ y. two_sign b y) (sym e) ∙ two in cc
    long (x ∷ y ∷ w) r t is f = cc

sign_two : (b c : ℕ) (bs : List ℕ) (o : Option Token) → two_sign b c ≡ o → IsBest (sign_form b) (c ∷ bs) (or_one o b c bs)
sign_two b c bs None h = sign_one b c bs (one_sign b) h refl
sign_two b c bs (Some s) h = (c ∷ [], refl, h, long)
  where
    long : (w r : List ℕ) (t : Token) → c ∷ bs ≡ w ++ r → sign_form b w ≡ Some t → length w ≤ 1
    long [] r t is f = omega arith
    long (x ∷ []) r t is f = omega arith
    long (x ∷ y ∷ w) r t is f = cc

sign_best : (b : ℕ) (bs : List ℕ) → IsBest (sign_form b) bs (sign_at b bs)
sign_best b [] = sign_empty b (one_sign b) refl
sign_best b (c ∷ bs) = sign_two b c bs (two_sign b c) refl

-- ---- letters and digits

-- a form that is a run of bytes, or else another one
abbrev run_or : (ℕ → Bool) → (List ℕ → Token) → (List ℕ → Option Token) → List ℕ → Option Token
run_or p make other w = cond (all_bytes p w) (Some (make w)) (other w)

run_case : (p : ℕ → Bool) (make : List ℕ → Token) (other : List ℕ → Option Token) (w : List ℕ) (t : Token) (b : Bool) → all_bytes p w ≡ b → cond b (Some (make w)) (other w) ≡ Some t → (all_bytes p w ≡ true) ⊎ (other w ≡ Some t)
run_case p make other w t true is h = inl is
run_case p make other w t false is h = inr h

-- where no front is of the other form, the run is the longest
run_best : (p : ℕ → Bool) (make : List ℕ → Token) (other : List ℕ → Option Token) (bs : List ℕ) → ((w r : List ℕ) (t : Token) → bs ≡ w ++ r → other w ≡ Some t → ⊥) → IsBest (run_or p make other) bs (Some (make (while_front p bs).0, (while_front p bs).1))
run_best p make other bs none =
    ((while_front p bs).0, front_cuts p bs, ap (λ b. cond b (Some (make (while_front p bs).0)) (other (while_front p bs).0)) (front_all p bs), long)
  where
    by : (w r : List ℕ) (t : Token) → bs ≡ w ++ r → (all_bytes p w ≡ true) ⊎ (other w ≡ Some t) → length w ≤ length (while_front p bs).0
    by w r t is (inl a) = subst (λ l. length w ≤ length (while_front p l).0) (sym is) (front_longest p w r a)
    by w r t is (inr o) = absurd (none w r t is o)

    long : (w r : List ℕ) (t : Token) → bs ≡ w ++ r → run_or p make other w ≡ Some t → length w ≤ length (while_front p bs).0
    long w r t is f = by w r t is (run_case p make other w t (all_bytes p w) refl f)

-- where the first byte passes no run, the other form alone counts
other_best : (p : ℕ → Bool) (make : List ℕ → Token) (other : List ℕ → Option Token) (q : ℕ) (bs word rest : List ℕ) (t : Token) → p q ≡ false → q ∷ bs ≡ (q ∷ word) ++ rest → other (q ∷ word) ≡ Some t →
    ((w r : List ℕ) (s : Token) → q ∷ bs ≡ w ++ r → other w ≡ Some s → length w ≤ suc (length word)) → IsBest (run_or p make other) (q ∷ bs) (Some (t, rest))
other_best p make other q bs word rest t fails cut is most =
    (q ∷ word, cut, ap (λ b. cond (b && all_bytes p word) (Some (make (q ∷ word))) (other (q ∷ word))) fails ∙ is, long)
  where
    by : (w r : List ℕ) (s : Token) → q ∷ bs ≡ w ++ r → (all_bytes p w ≡ true) ⊎ (other w ≡ Some s) → length w ≤ suc (length word)
    by w r s same (inr o) = most w r s same o
    by [] r s same (inl a) = omega arith
    by (x ∷ w) r s same (inl a) =
        let e : q ≡ x = cc in
        let fails' : p x ≡ false = ap p (sym e) ∙ fails in
        let f : (p x && all_bytes p w) ≡ false = ap (λ b. b && all_bytes p w) fails' in
        cc

    long : (w r : List ℕ) (s : Token) → q ∷ bs ≡ w ++ r → run_or p make other w ≡ Some s → length w ≤ suc (length word)
    long w r s same f = by w r s same (run_case p make other w s (all_bytes p w) refl f)

pub eq_from : (a b : ℕ) → nat_eq a b ≡ true → a ≡ b
eq_from a b h = grind (arith, nat_tests)

or_parts : (x y : Bool) → (x || y) ≡ true → (x ≡ true) ⊎ (y ≡ true)
or_parts true y h = inl refl
or_parts false y h = inr h

quote_no_name : (q : ℕ) → is_quote q ≡ true → is_name_byte q ≡ false
quote_no_name q h = by (or_parts (nat_eq q 34) (nat_eq q 39) h)
  where
    by : (nat_eq q 34 ≡ true) ⊎ (nat_eq q 39 ≡ true) → is_name_byte q ≡ false
    by (inl e) = ap is_name_byte (eq_from q 34 e)
    by (inr e) = ap is_name_byte (eq_from q 39 e)

-- raw text behind its `r`
raw_test : (q : ℕ) (o : Option (List ℕ × List ℕ)) (x : List ℕ × List ℕ) (b : Bool) → cond b o None ≡ Some x → (b ≡ true) × (o ≡ Some x)
raw_test q o x true h = (refl, h)
raw_test q o x false h = cc

form_test : (o : Option Token) (t : Token) (b : Bool) → cond b o None ≡ Some t → (b ≡ true) × (o ≡ Some t)
form_test o t true h = (refl, h)
form_test o t false h = cc

no_raw : (bs w r : List ℕ) (t : Token) → raw_at bs ≡ None → bs ≡ w ++ r → raw_form w ≡ Some t → ⊥
no_raw bs [] r t none is f = cc
no_raw [] (x ∷ w) r t none is f = no_empty x w r is
no_raw (q ∷ bs) (x ∷ w) r t none is f =
    let e : x ≡ q = cc in
    let tail : bs ≡ w ++ r = cc in
    let k = form_test (closed (between (next_move TextKind.Raw x) Mode.Plain w)) t (is_quote x) f in
    let quote : is_quote q ≡ true = ap is_quote (sym e) ∙ k.0 in
    let here : between (next_move TextKind.Raw q) Mode.Plain bs ≡ None = ap (λ b. cond b (between (next_move TextKind.Raw q) Mode.Plain bs) None) (sym quote) ∙ none in
    no_close (next_move TextKind.Raw q) bs w r t here tail (ap (λ y. closed (between (next_move TextKind.Raw y) Mode.Plain w)) (sym e) ∙ k.1)

raw_best : (make : List ℕ → Token) (bs : List ℕ) (x : List ℕ × List ℕ) → raw_at bs ≡ Some x → IsBest (run_or is_name_byte make raw_form) bs (Some (text_token x.0, x.1))
raw_best make [] x h = cc
raw_best make (q ∷ bs) x h =
    other_best is_name_byte make raw_form q bs c.0 x.1 (text_token x.0) (quote_no_name q k.0) (ap (λ l. q ∷ l) c.1)
    (ap (λ b. cond b (closed (between (next_move TextKind.Raw q) Mode.Plain c.0)) None) k.0 ∙ ap closed c.2) most
  where
    k : (is_quote q ≡ true) × (between (next_move TextKind.Raw q) Mode.Plain bs ≡ Some x)
    k = raw_test q (between (next_move TextKind.Raw q) Mode.Plain bs) x (is_quote q) h

    c : (w : List ℕ) × (bs ≡ w ++ x.1) × (between (next_move TextKind.Raw q) Mode.Plain w ≡ Some (x.0, []))
    c = between_cuts (next_move TextKind.Raw q) bs Mode.Plain x.0 x.1 k.1

    most : (w r : List ℕ) (s : Token) → q ∷ bs ≡ w ++ r → raw_form w ≡ Some s → length w ≤ suc (length c.0)
    most [] r s is f = omega arith
    most (y ∷ w) r s is f =
        let e : y ≡ q = cc in
        let tail : bs ≡ w ++ r = cc in
        let g = form_test (closed (between (next_move TextKind.Raw y) Mode.Plain w)) s (is_quote y) f in
        let same = one_close (next_move TextKind.Raw q) bs w r c.0 x.1 x.0 s k.1 c.1 tail (ap (λ z. closed (between (next_move TextKind.Raw z) Mode.Plain w)) (sym e) ∙ g.1) in
        omega arith

letter_raw : (at b : ℕ) (bs : List ℕ) (o : Option (List ℕ × List ℕ)) → raw_at bs ≡ o → IsBest (run_or is_name_byte (λ w. word_token at (b ∷ w)) raw_form) bs (or_raw o at b bs)
letter_raw at b bs None h = run_best is_name_byte (λ w. word_token at (b ∷ w)) raw_form bs (λ w r t. no_raw bs w r t h)
letter_raw at b bs (Some x) h = raw_best (λ w. word_token at (b ∷ w)) bs x h

letter_best_at : (at b : ℕ) (bs : List ℕ) (e : Bool) → IsBest (run_or is_name_byte (λ w. word_token at (b ∷ w)) (λ w. cond e (raw_form w) None)) bs (cond e (or_raw (raw_at bs) at b bs) (name_at at b bs))
letter_best_at at b bs true = letter_raw at b bs (raw_at bs) refl
letter_best_at at b bs false = run_best is_name_byte (λ w. word_token at (b ∷ w)) (λ w. None) bs (λ w r t is f. cc)

letter_best : (at b : ℕ) (bs : List ℕ) → IsBest (letter_form at b) bs (letter_at at b bs)
letter_best at b bs = letter_best_at at b bs (nat_eq b 114)

-- hexadecimal digits behind `0x`
hex_parts : (x h : ℕ) (w : List ℕ) (t : Token) → hex_form (x ∷ h ∷ w) ≡ Some t → (nat_eq x 120 ≡ true) × (is_hex h ≡ true) × (all_bytes is_hex w ≡ true)
hex_parts x h w t f =
    let k = form_test (cond (is_hex h && all_bytes is_hex w) (Some (hex_token (h ∷ w))) None) t (nat_eq x 120) f in
    let m = form_test (Some (hex_token (h ∷ w))) t (is_hex h && all_bytes is_hex w) k.1 in
    let a = and_parts (is_hex h) (all_bytes is_hex w) m.0 in
    (k.0, a.0, a.1)

no_hex : (bs w r : List ℕ) (t : Token) → hex_at bs ≡ None → bs ≡ w ++ r → hex_form w ≡ Some t → ⊥
no_hex bs [] r t none is f = cc
no_hex bs (x ∷ []) r t none is f = cc
no_hex [] (x ∷ h ∷ w) r t none is f = no_empty x (h ∷ w) r is
no_hex (y ∷ []) (x ∷ h ∷ w) r t none is f = cc
no_hex (y ∷ g ∷ bs) (x ∷ h ∷ w) r t none is f =
    let e : x ≡ y = cc in
    let d : h ≡ g = cc in
    let k = hex_parts x h w t f in
    let first : nat_eq y 120 ≡ true = ap (λ z. nat_eq z 120) (sym e) ∙ k.0 in
    let digit : is_hex g ≡ true = ap is_hex (sym d) ∙ k.1 in
    let found : Option (List ℕ × List ℕ) = Some (g ∷ (while_front is_hex bs).0, (while_front is_hex bs).1) in
    let here : found ≡ None = ap (λ b. cond b found None) (sym digit) ∙ ap (λ b. cond b (cond (is_hex g) found None) None) (sym first) ∙ none in
    cc

hex_best : (make : List ℕ → Token) (bs : List ℕ) (v : List ℕ × List ℕ) → hex_at bs ≡ Some v → IsBest (run_or is_digit make hex_form) bs (Some (hex_token v.0, v.1))
hex_best make [] v h = cc
hex_best make (x ∷ []) v h = cc
hex_best make (x ∷ g ∷ bs) v h =
    subst (λ q. IsBest (run_or is_digit make hex_form) (x ∷ g ∷ bs) (Some (hex_token q.0, q.1))) value
    (other_best is_digit make hex_form x (g ∷ bs) (g ∷ (while_front is_hex bs).0) (while_front is_hex bs).1 (hex_token (g ∷ (while_front is_hex bs).0))
    (ap is_digit (eq_from x 120 k.0)) (ap (λ l. x ∷ g ∷ l) (front_cuts is_hex bs)) whole most)
  where
    found : Option (List ℕ × List ℕ)
    found = Some (g ∷ (while_front is_hex bs).0, (while_front is_hex bs).1)

    k : (nat_eq x 120 ≡ true) × (cond (is_hex g) found None ≡ Some v)
    k = raw_test x (cond (is_hex g) found None) v (nat_eq x 120) h

    d : (is_hex g ≡ true) × (found ≡ Some v)
    d = raw_test x found v (is_hex g) k.1

    value : (g ∷ (while_front is_hex bs).0, (while_front is_hex bs).1) ≡ v
    value = let e = d.1 in cc

    whole : hex_form (x ∷ g ∷ (while_front is_hex bs).0) ≡ Some (hex_token (g ∷ (while_front is_hex bs).0))
    whole =
        let word = Some (hex_token (g ∷ (while_front is_hex bs).0)) in
        ap (λ b. cond b (cond (is_hex g && all_bytes is_hex (while_front is_hex bs).0) word None) None) k.0
        ∙ ap (λ b. cond (b && all_bytes is_hex (while_front is_hex bs).0) word None) d.0 ∙ ap (λ b. cond b word None) (front_all is_hex bs)

    most : (w r : List ℕ) (s : Token) → x ∷ g ∷ bs ≡ w ++ r → hex_form w ≡ Some s → length w ≤ suc (length (g ∷ (while_front is_hex bs).0))
    most [] r s is f = omega arith
    most (y ∷ []) r s is f = omega arith
    most (y ∷ z ∷ w) r s is f =
        let tail : bs ≡ w ++ r = cc in
        let parts = hex_parts y z w s f in
        let long : length w ≤ length (while_front is_hex bs).0 = subst (λ l. length w ≤ length (while_front is_hex l).0) (sym tail) (front_longest is_hex w r parts.2) in
        omega arith

digit_hex : (b : ℕ) (bs : List ℕ) (o : Option (List ℕ × List ℕ)) → hex_at bs ≡ o → IsBest (run_or is_digit (λ w. decimal_token (b ∷ w)) hex_form) bs (or_hex o b bs)
digit_hex b bs None h = run_best is_digit (λ w. decimal_token (b ∷ w)) hex_form bs (λ w r t. no_hex bs w r t h)
digit_hex b bs (Some x) h = hex_best (λ w. decimal_token (b ∷ w)) bs x h

digit_best_at : (b : ℕ) (bs : List ℕ) (e : Bool) → IsBest (run_or is_digit (λ w. decimal_token (b ∷ w)) (λ w. cond e (hex_form w) None)) bs (cond e (or_hex (hex_at bs) b bs) (number_at b bs))
digit_best_at b bs true = digit_hex b bs (hex_at bs) refl
digit_best_at b bs false = run_best is_digit (λ w. decimal_token (b ∷ w)) (λ w. None) bs (λ w r t is f. cc)

digit_best : (b : ℕ) (bs : List ℕ) → IsBest (digit_form b) bs (digit_at b bs)
digit_best b bs = digit_best_at b bs (nat_eq b 48)

-- ---- pieces

-- the same of pieces, behind a first byte
abbrev IsBestPiece : (List ℕ → Option Piece) → List ℕ → Option (Piece × List ℕ) → Type 0
IsBestPiece f bs None = (w r : List ℕ) (t : Piece) → bs ≡ w ++ r → f w ≡ Some t → ⊥
IsBestPiece f bs (Some found) = (word : List ℕ) × (bs ≡ word ++ found.1) × (f word ≡ Some found.0) × ((w r : List ℕ) (t : Piece) → bs ≡ w ++ r → f w ≡ Some t → length w ≤ length word)

piece_some : (o : Option Token) (p : Piece) → as_piece o ≡ Some p → (t : Token) × (o ≡ Some t)
piece_some None p h = cc
piece_some (Some t) p h = (t, refl)

best_piece : (f : List ℕ → Option Token) (bs : List ℕ) (o : Option (Token × List ℕ)) → IsBest f bs o → IsBestPiece (λ w. as_piece (f w)) bs (piece_of o)
best_piece f bs None best = λ w r p is h. let t = piece_some (f w) p h in best w r t.0 is t.1
best_piece f bs (Some x) best = (best.0, best.1, ap as_piece best.2, λ w r p is h. let t = piece_some (f w) p h in best.3 w r t.0 is t.1)

blank_best : (bs : List ℕ) → IsBestPiece blank_form bs (Some (Piece.Blank, bs))
blank_best bs = ([], refl, refl, long)
  where
    long : (w r : List ℕ) (p : Piece) → bs ≡ w ++ r → blank_form w ≡ Some p → length w ≤ 0
    long [] r p is h = omega arith
    long (c ∷ w) r p is h = cc

slash_alone : (bs : List ℕ) → ((w r : List ℕ) (c : ℕ) → bs ≡ (c ∷ w) ++ r → nat_eq c 47 ≡ false) → IsBestPiece slash_form bs (Some (Piece.Token (Token.Sign Div), bs))
slash_alone bs other = ([], refl, refl, long)
  where
    long : (w r : List ℕ) (p : Piece) → bs ≡ w ++ r → slash_form w ≡ Some p → length w ≤ 0
    long [] r p is h = omega arith
    long (c ∷ w) r p is h =
        let no : slash_form (c ∷ w) ≡ None = ap (λ b. cond (b && all_bytes is_in_line w) (Some Piece.Blank) None) (other w r c is) in
        cc

blank_test : (t : Bool) (p : Piece) → cond t (Some Piece.Blank) None ≡ Some p → t ≡ true
blank_test true p h = refl
blank_test false p h = cc

comment_best : (c : ℕ) (bs : List ℕ) → nat_eq c 47 ≡ true → IsBestPiece slash_form (c ∷ bs) (Some (Piece.Blank, (while_front is_in_line bs).1))
comment_best c bs slash = (
  c ∷ (while_front is_in_line bs).0,
  ap (λ l. c ∷ l) (front_cuts is_in_line bs),
  ap (λ b. cond (b && all_bytes is_in_line (while_front is_in_line bs).0) (Some Piece.Blank) None) slash ∙ ap (λ b. cond b (Some Piece.Blank) None) (front_all is_in_line bs),
  long,
)
  where
    long : (w r : List ℕ) (p : Piece) → c ∷ bs ≡ w ++ r → slash_form w ≡ Some p → length w ≤ suc (length (while_front is_in_line bs).0)
    long [] r p is h = omega arith
    long (x ∷ w) r p is h =
        let tail : bs ≡ w ++ r = cc in
        let both = and_parts (nat_eq x 47) (all_bytes is_in_line w) (blank_test (nat_eq x 47 && all_bytes is_in_line w) p h) in
        let most : length w ≤ length (while_front is_in_line bs).0 = subst (λ l. length w ≤ length (while_front is_in_line l).0) (sym tail) (front_longest is_in_line w r both.1) in
        omega arith

slash_second : (c : ℕ) (bs : List ℕ) (t : Bool) → nat_eq c 47 ≡ t → IsBestPiece slash_form (c ∷ bs) (cond t (Some (Piece.Blank, (while_front is_in_line bs).1)) (Some (Piece.Token (Token.Sign Div), c ∷ bs)))
slash_second c bs true h = comment_best c bs h
slash_second c bs false h = slash_alone (c ∷ bs) (λ w r x is. let e : c ≡ x = cc in ap (λ y. nat_eq y 47) (sym e) ∙ h)

slash_best : (bs : List ℕ) → IsBestPiece slash_form bs (slash_at bs)
slash_best [] = slash_alone [] (λ w r x is. absurd (no_empty x w r is))
slash_best (c ∷ bs) = slash_second c bs (nat_eq c 47) refl

-- ---- by the first byte

by_first : (at b : ℕ) (bs : List ℕ) (o : Option (Piece × List ℕ)) → IsBestPiece (λ w. form at (b ∷ w)) bs o → IsFirst at (b ∷ bs) o
by_first at b bs None best = none
  where
    none : (w r : List ℕ) (t : Piece) → b ∷ bs ≡ w ++ r → form at w ≡ Some t → ⊥
    none [] r t is f = cc
    none (x ∷ w) r t is f =
        let e : x ≡ b = cc in
        let tail : bs ≡ w ++ r = cc in
        best w r t tail (ap (λ y. form at (y ∷ w)) (sym e) ∙ f)
by_first at b bs (Some found) best = (b ∷ best.0, record { front = ap (λ l. b ∷ l) best.1; is = best.2; longest = long })
  where
    long : (w r : List ℕ) (t : Piece) → b ∷ bs ≡ w ++ r → form at w ≡ Some t → length w ≤ suc (length best.0)
    long [] r t is f = omega arith
    long (x ∷ w) r t is f =
        let e : x ≡ b = cc in
        let tail : bs ≡ w ++ r = cc in
        let most = best.3 w r t tail (ap (λ y. form at (y ∷ w)) (sym e) ∙ f) in
        omega arith

choose : (at b : ℕ) (bs : List ℕ) (x y z u v : Bool) →
    IsBestPiece (λ w. cond x (as_piece (letter_form at b w)) (cond y (as_piece (digit_form b w)) (cond z (as_piece (quote_form b w)) (cond u (blank_form w) (cond v (slash_form w) (as_piece (sign_form b w))))))) bs
    (cond x (piece_of (letter_at at b bs)) (cond y (piece_of (digit_at b bs)) (cond z (piece_of (quote_at b bs)) (cond u (Some (Piece.Blank, bs)) (cond v (slash_at bs) (piece_of (sign_at b bs)))))))
choose at b bs true y z u v = best_piece (letter_form at b) bs (letter_at at b bs) (letter_best at b bs)
choose at b bs false true z u v = best_piece (digit_form b) bs (digit_at b bs) (digit_best b bs)
choose at b bs false false true u v = best_piece (quote_form b) bs (quote_at b bs) (quote_best_at b bs (between (next_move TextKind.Escaped b) Mode.Plain bs) refl)
choose at b bs false false false true v = blank_best bs
choose at b bs false false false false true = slash_best bs
choose at b bs false false false false false = best_piece (sign_form b) bs (sign_at b bs) (sign_best b bs)

-- the first word of a text is the longest that fits, and there is none only where none fits
pub first_is : (at : ℕ) (text : List ℕ) → IsFirst at text (word_at at text)
first_is at [] = none
  where
    none : (w r : List ℕ) (t : Piece) → [] ≡ w ++ r → form at w ≡ Some t → ⊥
    none [] r t is f = cc
    none (x ∷ w) r t is f = no_empty x w r is
first_is at (b ∷ bs) = by_first at b bs (word_at at (b ∷ bs)) (choose at b bs (is_letter b) (is_digit b) (is_quote b) (is_blank b) (nat_eq b 47))
