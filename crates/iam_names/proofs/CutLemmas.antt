-- A text without its front, and a text cut at a byte.
use Rattle.std.proofs.Common.{◌≡◌, ◌≢◌, ℕ, suc, ◌<◌, List, [], ◌∷◌, ◌++◌, Bool, true, false, not, ◌&&◌, cond, eqb, length, get_or, drop, Option, Some, None, option_map, Bor, MatchOption, refl, ap, sym, ◌∙◌, arith}
use Rattle.std.specs.List.{list_all}
use Rattle.std.specs.Str.Pattern.{FindsTextPrefix, StripsPrefix}
use Rattle.std.proofs.lemmas.Bool.{eqb-true, eq-eqb}
use Rattle.std.proofs.lemmas.Str.Pattern.{IsSplitOnceResult, split_parts}
use Rattle.iam_names.specs.Cuts.{after, cut_at}

same : (x : ℕ) → eqb x x ≡ true
same x = eq-eqb x x refl

other : (x y : ℕ) → x ≢ y → eqb x y ≡ false
other x y h = by_test (eqb x y) refl
  where
    by_test : (b : Bool) → eqb x y ≡ b → eqb x y ≡ false
    by_test true e = absurd (h (eqb-true x y e))
    by_test false e = e

-- ---- a front

pub after-append : (front rest : List ℕ) → after front (front ++ rest) ≡ Some rest
after-append [] rest = refl
after-append (x ∷ front) rest = rw (same x) (after-append front rest)

pub after-sound : (front text rest : List ℕ) → after front text ≡ Some rest → text ≡ front ++ rest
after-sound [] text rest h = cc
after-sound (x ∷ front) [] rest h = cc
after-sound (x ∷ front) (y ∷ text) rest h = by_head (eqb x y) refl h (after-sound front text rest)
  where
    by_head : (b : Bool) → eqb x y ≡ b → cond b (after front text) None ≡ Some rest → (after front text ≡ Some rest → text ≡ front ++ rest) → y ∷ text ≡ x ∷ (front ++ rest)
    by_head true e g sound =
        let tail : text ≡ front ++ rest = sound g in
        let head : x ≡ y = eqb-true x y e in
        cc
    by_head false e g sound = cc

after-lacks : (front text : List ℕ) (r : Option (List ℕ)) → after front text ≡ r → ((rest : List ℕ) → text ≢ front ++ rest) → r ≡ None
after-lacks front text None e h = refl
after-lacks front text (Some rest) e h = absurd (h rest (after-sound front text rest e))

pub after-stripped : (front text : List ℕ) (r : Option (Bor (List ℕ))) → MatchOption r (FindsTextPrefix front text None) (λ x. StripsPrefix (FindsTextPrefix front) text x.now) → option_map (λ rest. rest.now) r ≡ after front text
after-stripped front text None h = sym (after-lacks front text (after front text) refl h)
after-stripped front text (Some x) h =
    let split : text ≡ front ++ drop h.0 text = h.1.1 in
    let rest : x.now ≡ drop h.0 text = h.2 in
    ap Some rest ∙ sym (ap (after front) split ∙ after-append front (drop h.0 text))

-- ---- a cut

-- the byte isn't in the text
abbrev pub lacks : ℕ → List ℕ → Bool
lacks byte text = list_all (λ x. not (eqb x byte)) text

pub cut_at-append : (byte : ℕ) (front rest : List ℕ) → lacks byte front ≡ true → cut_at byte (front ++ byte ∷ rest) ≡ Some (front, rest)
cut_at-append byte [] rest h = rw (same byte) refl
cut_at-append byte (x ∷ front) rest h = by_head (eqb x byte) h (cut_at-append byte front rest)
  where
    by_head : (b : Bool) → (not b && lacks byte front) ≡ true → (lacks byte front ≡ true → cut_at byte (front ++ byte ∷ rest) ≡ Some (front, rest)) → cond {A = Option (List ℕ × List ℕ)} b (Some ([], front ++ byte ∷ rest)) (option_map (λ parts. (x ∷ parts.0, parts.1)) (cut_at byte (front ++ byte ∷ rest))) ≡ Some (x ∷ front, rest)
    by_head true g tail = cc
    by_head false g tail = rw (tail g) refl

first_of_some : (a b : List ℕ × List ℕ) → ◌≡◌ (Some a) (Some b) → a ≡ b
first_of_some a b h = cc

pub cut_at-sound : (byte : ℕ) (text : List ℕ) (parts : List ℕ × List ℕ) → cut_at byte text ≡ Some parts → text ≡ parts.0 ++ byte ∷ parts.1
cut_at-sound byte [] parts h = cc
cut_at-sound byte (x ∷ text) parts h = by_head (eqb x byte) refl (cut_at byte text) h (cut_at-sound byte text)
  where
    by_head : (b : Bool) → eqb x byte ≡ b → (r : Option (List ℕ × List ℕ)) → cond {A = Option (List ℕ × List ℕ)} b (Some ([], text)) (option_map (λ found. (x ∷ found.0, found.1)) r) ≡ Some parts → ((found : List ℕ × List ℕ) → r ≡ Some found → text ≡ found.0 ++ byte ∷ found.1) → x ∷ text ≡ parts.0 ++ byte ∷ parts.1
    by_head true e r g tail = rw (← first_of_some _ parts g) (ap (λ (y : ℕ). y ∷ text) (eqb-true x byte e))
    by_head false e None g tail = cc
    by_head false e (Some found) g tail = rw (← first_of_some _ parts g) (ap (λ (l : List ℕ). x ∷ l) (tail found refl))

pub cut_at-lacks : (byte : ℕ) (text : List ℕ) → lacks byte text ≡ true → cut_at byte text ≡ None
cut_at-lacks byte [] h = refl
cut_at-lacks byte (x ∷ text) h = by_head (eqb x byte) h (cut_at-lacks byte text)
  where
    by_head : (b : Bool) → (not b && lacks byte text) ≡ true → (lacks byte text ≡ true → cut_at byte text ≡ None) → cond {A = Option (List ℕ × List ℕ)} b (Some ([], text)) (option_map (λ parts. (x ∷ parts.0, parts.1)) (cut_at byte text)) ≡ None
    by_head true g tail = cc
    by_head false g tail = rw (tail g) refl

lacks-by_place : (byte : ℕ) (text : List ℕ) → ((i : ℕ) → i < length text → get_or text i 0 ≢ byte) → lacks byte text ≡ true
lacks-by_place byte [] h = refl
lacks-by_place byte (x ∷ text) h =
    let head : eqb x byte ≡ false = other x byte (h 0 (omega arith)) in
    let tail : lacks byte text ≡ true = lacks-by_place byte text (λ i within. h (suc i) (omega arith)) in
    rw (head, tail) refl

pub cut_at-split : (byte : ℕ) (text : List ℕ) (r : Option (Bor (List ℕ) × Bor (List ℕ))) → IsSplitOnceResult byte text r → byte < 128 → option_map (λ parts. (parts.0.now, parts.1.now)) r ≡ cut_at byte text
cut_at-split byte text None h ascii = sym (cut_at-lacks byte text (lacks-by_place byte text (split_parts byte text None h ascii)))
cut_at-split byte text (Some parts) h ascii =
    let split = split_parts byte text (Some parts) h ascii in
    sym (ap (cut_at byte) split.0 ∙ cut_at-append byte parts.0.now parts.1.now (lacks-by_place byte parts.0.now split.1))
