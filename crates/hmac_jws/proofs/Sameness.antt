-- Two lists of bytes are the same where no xor of theirs leaves a bit.
use Rattle.std.proofs.Common.{◌≡◌, ℕ, ◌+◌, ◌%◌, ◌==◌, Bool, true, false, ◌&&◌, List, [], ◌∷◌, ◌++◌, length, bit_or, bit_xor, Decides, arith, refl, sym, ap, ◌∙◌}
use Rattle.std.specs.Int.{bit_at}
use Rattle.std.specs.Str.{bytes_eq}
use Rattle.std.proofs.lemmas.Nat.{le_or_l, le_or_r}
use Rattle.std.proofs.lemmas.Nat.Bits.{bit_at_xor, bit_at-lt, bit_at-zero, same_from_bits}
use Rattle.std.proofs.lemmas.Bool.Decides.{same_from_decides, Decides-eqb, Decides-and}
use Rattle.std.specs.Int.Bits.{xor_self}

same_from_xor : (x y : ℕ) → bit_xor x y ≡ 0 → x ≡ y
same_from_xor x y none = same_from_bits x y (λ i.
    let sum : (bit_at x i + bit_at y i) % 2 ≡ 0 = sym (bit_at_xor x y i) ∙ ap (λ n. bit_at n i) none ∙ bit_at-zero i in
    omega (arith, sum, bit_at-lt x i, bit_at-lt y i))

Decides-difference : (d x y : ℕ) → Decides (bit_or d (bit_xor x y) == 0) ((d ≡ 0) × (x ≡ y))
Decides-difference d x y =
    let test = Decides-eqb (bit_or d (bit_xor x y)) 0 in (
      (λ is.
          let none : bit_or d (bit_xor x y) ≡ 0 = test.0 is in
          (omega (arith, none, le_or_l d (bit_xor x y)), same_from_xor x y (omega (arith, none, le_or_r d (bit_xor x y))))),
      (λ both. test.1 (rw (both.0, both.1, xor_self y) refl)),
    )

pub difference_more : (d x y : ℕ) → (bit_or d (bit_xor x y) == 0) ≡ ((d == 0) && (x == y))
difference_more d x y =
    same_from_decides _ _ (Decides-difference d x y) (Decides-and (d == 0) (x == y) (Decides-eqb d 0) (Decides-eqb x y))

and_right : (b : Bool) → (true && b) ≡ (b && true)
and_right true = refl
and_right false = refl

and_false : (b : Bool) → (b && false) ≡ false
and_false true = refl
and_false false = refl

and_assoc : (a b c : Bool) → (a && (b && c)) ≡ ((a && b) && c)
and_assoc true b c = refl
and_assoc false b c = refl

pub bytes_eq_more : (xs ys : List ℕ) (x y : ℕ) → length xs ≡ length ys → bytes_eq (xs ++ x ∷ []) (ys ++ y ∷ []) ≡ (bytes_eq xs ys && (x == y))
bytes_eq_more [] [] x y long = sym (and_right (x == y))
bytes_eq_more [] (b ∷ ys) x y long = absurd (omega (arith, long))
bytes_eq_more (a ∷ xs) [] x y long = absurd (omega (arith, long))
bytes_eq_more (a ∷ xs) (b ∷ ys) x y long =
    let rest : length xs ≡ length ys = omega (arith, long) in
    ap (λ r. (a == b) && r) (bytes_eq_more xs ys x y rest) ∙ and_assoc (a == b) (bytes_eq xs ys) (x == y)
