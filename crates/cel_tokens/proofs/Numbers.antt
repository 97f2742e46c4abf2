-- The value of digits, which stays at the largest of 64 bits.
use Rattle.std.proofs.Common.{◌≡◌, ℕ, ◌+◌, ◌-◌, ◌*◌, ◌^◌, ◌<◌, ◌≤◌, List, [], ◌∷◌, drop, length, min, ap, ◌∙◌, sym, arith, drop-cons, get_or, add-one}
use Rattle.std.proofs.lemmas.List.{drop_all}
use Rattle.cel_tokens.specs.Words.{saturated, decimal_number, hex_number, hex_value}

times_ten : (n m d : ℕ) → saturated n ≡ saturated m → saturated (n * 10 + d) ≡ saturated (m * 10 + d)
times_ten n m d h = omega arith

pub decimal_same : (n m : ℕ) (bs : List ℕ) → saturated n ≡ saturated m → saturated (decimal_number n bs) ≡ saturated (decimal_number m bs)
decimal_same n m [] h = h
decimal_same n m (b ∷ bs) h = decimal_same (n * 10 + (b - 48)) (m * 10 + (b - 48)) bs (times_ten n m (b - 48) h)

times_sixteen : (n m d : ℕ) → saturated n ≡ saturated m → saturated (n * 16 + d) ≡ saturated (m * 16 + d)
times_sixteen n m d h = omega arith

pub hex_same : (n m : ℕ) (bs : List ℕ) → saturated n ≡ saturated m → saturated (hex_number n bs) ≡ saturated (hex_number m bs)
hex_same n m [] h = h
hex_same n m (b ∷ bs) h = hex_same (n * 16 + hex_value b) (m * 16 + hex_value b) bs (times_sixteen n m (hex_value b) h)

ten_step : (n d : ℕ) → saturated (min (min (n * 10) (2 ^ 64 - 1) + d) (2 ^ 64 - 1)) ≡ saturated (n * 10 + d)
ten_step n d = omega arith

sixteen_step : (n d : ℕ) → saturated (min (min (n * 16) (2 ^ 64 - 1) + d) (2 ^ 64 - 1)) ≡ saturated (n * 16 + d)
sixteen_step n d = omega arith

-- one digit more
pub decimal_more : (bs : List ℕ) (i n now : ℕ) → i < length bs → now ≡ min (min (n * 10) (2 ^ 64 - 1) + (get_or bs i 0 - 48)) (2 ^ 64 - 1) →
    saturated (decimal_number now (drop (i + 1) bs)) ≡ saturated (decimal_number n (drop i bs))
decimal_more bs i n now less value =
    decimal_same now (n * 10 + (get_or bs i 0 - 48)) (drop (i + 1) bs) (ap saturated value ∙ ten_step n (get_or bs i 0 - 48))
    ∙ ap (λ l. saturated (decimal_number (n * 10 + (get_or bs i 0 - 48)) (drop l bs))) (add-one i) ∙ sym (ap (λ l. saturated (decimal_number n l)) (drop-cons bs i 0 less))

pub hex_more : (bs : List ℕ) (i n now : ℕ) → i < length bs → now ≡ min (min (n * 16) (2 ^ 64 - 1) + hex_value (get_or bs i 0)) (2 ^ 64 - 1) →
    saturated (hex_number now (drop (i + 1) bs)) ≡ saturated (hex_number n (drop i bs))
hex_more bs i n now less value =
    hex_same now (n * 16 + hex_value (get_or bs i 0)) (drop (i + 1) bs) (ap saturated value ∙ sixteen_step n (hex_value (get_or bs i 0)))
    ∙ ap (λ l. saturated (hex_number (n * 16 + hex_value (get_or bs i 0)) (drop l bs))) (add-one i) ∙ sym (ap (λ l. saturated (hex_number n l)) (drop-cons bs i 0 less))

pub number_end : (number : ℕ → List ℕ → ℕ) (bs : List ℕ) (i n : ℕ) → ((m : ℕ) → number m [] ≡ m) → length bs ≤ i → n < 2 ^ 64 →
    saturated (number n (drop i bs)) ≡ saturated (number 0 bs) → n ≡ saturated (number 0 bs)
number_end number bs i n base past small same =
    let fits : n ≡ saturated n = omega arith in
    fits ∙ ap saturated (sym (base n)) ∙ ap (λ l. saturated (number n l)) (sym (drop_all i bs past)) ∙ same
