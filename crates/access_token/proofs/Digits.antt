-- The number that digits write.
use Rattle.std.proofs.Common.{◌≡◌, ◌≤◌, ◌<◌, ◌+◌, ◌*◌, ◌^◌, ℕ, suc, Bool, true, false, List, [], ◌∷◌, length, get_or, drop, drop-cons, nat_lt, None, refl, arith}
use Rattle.std.proofs.lemmas.Bool.Decides.{Decides-ltb}
use Rattle.base_types.specs.Forms.{passing}
use Rattle.std.specs.Char.{digit_value}
use Rattle.std.specs.Str.Parse.{digits_value, digits_value_after}

-- more digits write no less
pub digits_value_after-least : (n : ℕ) (digits : List ℕ) → n ≤ digits_value_after 10 n digits
digits_value_after-least n [] = omega arith
digits_value_after-least n (digit ∷ digits) = omega (arith, digits_value_after-least (n * 10 + digit_value digit) digits)

not_below : (n most : ℕ) (b : Bool) → (b ≡ true → n < most) → most ≤ n → b ≡ false
not_below n most true is large = absurd (omega (arith, is refl))
not_below n most false is large = refl

-- a number that has grown too large stays so
pub refused : (number : ℕ) (text : List ℕ) (index : ℕ) → index < length text → digits_value_after 10 number (drop index text) ≡ digits_value 10 text
    → 2 ^ 32 ≤ number * 10 + digit_value (get_or text index 0) → passing (λ n. nat_lt n (2 ^ 32)) (digits_value 10 text) ≡ None
refused number text index within written large =
    let digit = get_or text index 0 in
    let rest = drop (suc index) text in
    let next : drop index text ≡ digit ∷ rest = drop-cons text index 0 within in
    let grown : digits_value_after 10 (number * 10 + digit_value digit) rest ≡ digits_value 10 text = rw next at written in
    let most : 2 ^ 32 ≤ digits_value 10 text = omega (arith, grown, digits_value_after-least (number * 10 + digit_value digit) rest) in
    let over : nat_lt (digits_value 10 text) (2 ^ 32) ≡ false = not_below (digits_value 10 text) (2 ^ 32) _ (Decides-ltb (digits_value 10 text) (2 ^ 32)).0 most in
    rw over refl
