-- Decimal numbers are read as they are written.
use Rattle.std.proofs.Common.{◌≡◌, ◌<◌, ◌≤◌, ◌^◌, ℕ, List, Bool, true, false, cond, nat_le, refl, sym, ◌∙◌, ap, arith}
use Rattle.std.specs.Prelude.{Option, None, Some, option_and_then, not}
use Rattle.std.proofs.lemmas.Bool.Decides.{nat_tests}
use Rattle.std.proofs.lemmas.Fmt.{decimal_is_IsNumeral}
use Rattle.std.proofs.lemmas.Slice.Eq.{bytes_eq-Decides}
use Rattle.std.specs.Fmt.{decimal}
use Rattle.std.specs.Str.{bytes_eq}
use Rattle.std.specs.Str.Parse.{digits_value}
use Rattle.base_types.specs.Forms.{passing}
use Rattle.client_proto.specs.Numbers.{decimal_of, decimal_up_to}

read_back : (text : List ℕ) (n : ℕ) → digits_value 10 text ≡ n → text ≡ decimal n → decimal_of text ≡ Some n
read_back text n value is =
    let v = digits_value 10 text in
    let same : bytes_eq text (decimal v) ≡ true = (bytes_eq-Decides text (decimal v)).1 (is ∙ ap decimal (sym value)) in
    ap (λ (b : Bool). cond {A = Option ℕ} b (Some v) None) same ∙ ap Some value

decimal_of-decimal : (n : ℕ) → n < 2 ^ 64 → decimal_of (decimal n) ≡ Some n
decimal_of-decimal n low = read_back (decimal n) n (decimal_is_IsNumeral n low).1 refl

decimal_of-sound : (text : List ℕ) (n : ℕ) → decimal_of text ≡ Some n → text ≡ decimal n
decimal_of-sound text n h = by_test (bytes_eq text (decimal (digits_value 10 text))) refl h
  where
    by_test : (b : Bool) → bytes_eq text (decimal (digits_value 10 text)) ≡ b → cond {A = Option ℕ} b (Some (digits_value 10 text)) None ≡ Some n → text ≡ decimal n
    by_test true same g =
        let value : digits_value 10 text ≡ n = cc in
        (bytes_eq-Decides text (decimal (digits_value 10 text))).0 same ∙ ap decimal value
    by_test false same g = cc

-- a number that is small enough is read back
pub up_to-decimal : (most n : ℕ) → n ≤ most → n < 2 ^ 64 → decimal_up_to most (decimal n) ≡ Some n
unfolding decimal_up_to
up_to-decimal most n within low =
    let small : nat_le n most ≡ true = grind (arith, nat_tests) in
    ap (option_and_then (passing (λ m. nat_le m most))) (decimal_of-decimal n low) ∙ ap (λ (b : Bool). cond {A = Option ℕ} b (Some n) None) small

pub up_to-sound : (most : ℕ) (text : List ℕ) (n : ℕ) → decimal_up_to most text ≡ Some n → (n ≤ most) × (text ≡ decimal n)
unfolding decimal_up_to
up_to-sound most text n h = by_number (decimal_of text) refl h
  where
    by_test : (m : ℕ) (b : Bool) → nat_le m most ≡ b → decimal_of text ≡ Some m → cond {A = Option ℕ} b (Some m) None ≡ Some n → (n ≤ most) × (text ≡ decimal n)
    by_test m true small is g =
        let same : m ≡ n = cc in
        let within : m ≤ most = grind (arith, nat_tests) in
        (omega arith, decimal_of-sound text m is ∙ ap decimal same)
    by_test m false small is g = cc

    by_number : (r : Option ℕ) → decimal_of text ≡ r → option_and_then (passing (λ m. nat_le m most)) r ≡ Some n → (n ≤ most) × (text ≡ decimal n)
    by_number None is g = cc
    by_number (Some m) is g = by_test m (nat_le m most) refl is g

-- a text that is no such number is none
pub up_to-none : (most : ℕ) (text : List ℕ) → ((n : ℕ) → n ≤ most → text ≡ decimal n → ⊥) → decimal_up_to most text ≡ None
up_to-none most text never = by_case (decimal_up_to most text) refl
  where
    by_case : (r : Option ℕ) → decimal_up_to most text ≡ r → r ≡ None
    by_case None is = refl
    by_case (Some n) is = let found = up_to-sound most text n is in absurd (never n found.0 found.1)

-- ---- what a comparison of texts says

pub differs : (xs ys : List ℕ) → true ≡ not (bytes_eq xs ys) → xs ≡ ys → ⊥
differs xs ys unequal same =
    let equal : bytes_eq xs ys ≡ true = (bytes_eq-Decides xs ys).1 same in
    cc (unequal, ap not equal)

pub alike : (xs ys : List ℕ) → false ≡ not (bytes_eq xs ys) → xs ≡ ys
alike xs ys equal = by_test (bytes_eq xs ys) refl equal
  where
    by_test : (b : Bool) → bytes_eq xs ys ≡ b → false ≡ not b → xs ≡ ys
    by_test true is g = (bytes_eq-Decides xs ys).0 is
    by_test false is g = cc g
