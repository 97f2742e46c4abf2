-- Numbers and parts that are read: what is past the bound stays past it.
use Rattle.std.proofs.Common.{◌≡◌, ◌⊎◌, ◌<◌, ◌≤◌, ◌+◌, ◌*◌, ◌-◌, ◌==◌, ℕ, suc, Bool, true, false, nat_le, List, [], ◌∷◌, length, drop, get_or, Option, None, Some, refl, inl, inr, arith, drop-cons}
use Rattle.std.proofs.lemmas.Nat.{mul-le}
use Rattle.std.specs.Option.{unwrap_or}
use Rattle.std.proofs.lemmas.Bool.{leb-false}
use Rattle.std.specs.Char.{is_ascii_digit}
use Rattle.cel_builtins.specs.Bounds.{bounded}
use Rattle.cel_builtins.specs.Durations.{number_behind, seconds_behind, with_digit, with_part, unit}

pub truth : (b : Bool) → (b ≡ true) ⊎ (b ≡ false)
truth true = inl refl
truth false = inr refl

bounded_past : (most n : ℕ) → most < n → bounded most (Some n) ≡ None
bounded_past most n h = let e : nat_le n most ≡ false = grind arith in rw e refl

number_past : (most n : ℕ) (t : List ℕ) → most < n → bounded most (number_behind n t) ≡ None
number_past most n [] h = bounded_past most n h
number_past most n (b ∷ t) h = elim (truth (is_ascii_digit b)) [
  | inl e ↦ rw e (number_past most (n * 10 + (b - 48)) t (omega (arith, h)))
  | inr e ↦ rw e refl
]

-- a further digit is past the bound
pub number_past_at : (most n i b : ℕ) (t : List ℕ) → i < length t → is_ascii_digit (get_or t i b) ≡ true → most < n * 10 + (get_or t i b - 48) → bounded most (number_behind n (drop i t)) ≡ None
number_past_at most n i b t h digit past = rw (drop-cons t i b, digit) (number_past most (n * 10 + (get_or t i b - 48)) (drop (suc i) t) past)

-- ---- spans

unit_some : (b u : ℕ) → unit b ≡ Some u → 1 ≤ u
unit_some b u e = elim (truth (b == 104)) [
  | inl h ↦ let same : Some 3600 ≡ Some u = cc in grind arith
  | inr h ↦ elim (truth (b == 109)) [
    | inl m ↦ grind arith
    | inr m ↦ elim (truth (b == 115)) [ inl s ↦ grind arith | inr s ↦ grind arith ]
  ]
]

part_sum : (total n : ℕ) (u : Option ℕ) (k : ℕ) → ((v : ℕ) → u ≡ Some v → 1 ≤ v) → with_part total (Some n) u ≡ Some k → total + n ≤ k
part_sum total n None k some e = absurd (cc)
part_sum total n (Some v) k some e =
    let one : 1 ≤ v = some v refl in
    let whole : total + n * v ≡ k = cc in
    let more : n * 1 ≤ n * v = mul-le n 1 n v (omega arith) one in
    omega (arith, more, whole)

-- what is past the bound stays past it
seconds_past : (most : ℕ) (t : List ℕ) (p o : Option ℕ) → ((total : ℕ) → o ≡ Some total → most < total + unwrap_or p 0) → bounded most (seconds_behind p o t) ≡ None
seconds_past most t p None h = refl
seconds_past most [] None (Some total) h = bounded_past most total (omega (arith, h total refl))
seconds_past most [] (Some n) (Some total) h = refl
seconds_past most (b ∷ t) None (Some total) h = elim (truth (is_ascii_digit b)) [
  | inl e ↦ rw e (seconds_past most t (Some (b - 48)) (Some total) (λ k is. let same : total ≡ k = cc in omega (arith, h total refl, same)))
  | inr e ↦ rw e (seconds_past most t None None (λ k is. absurd (cc)))
]
seconds_past most (b ∷ t) (Some n) (Some total) h = elim (truth (is_ascii_digit b)) [
  | inl e ↦ rw e (seconds_past most t (Some (n * 10 + (b - 48))) (Some total) (λ k is. let same : total ≡ k = cc in omega (arith, h total refl, same)))
  | inr e ↦ rw e (seconds_past most t None (with_part total (Some n) (unit b)) (λ k is. omega (arith, h total refl, part_sum total n (unit b) k (unit_some b) is)))
]

pub past_bound : (most n : ℕ) → bounded most (Some n) ≡ None → most < n
past_bound most n e = elim (truth (nat_le n most)) [
  | inl h ↦ let same : bounded most (Some n) ≡ Some n = rw h refl in absurd (cc)
  | inr h ↦ leb-false n most h
]

part_past_any : (total : ℕ) (o : Option ℕ) (t : List ℕ) → bounded 315576000000 o ≡ None → bounded 315576000000 (seconds_behind None o t) ≡ None
part_past_any total None t e = refl
part_past_any total (Some n) t e = seconds_past 315576000000 t None (Some n) (λ k is. let same : n ≡ k = cc in omega (arith, same, past_bound 315576000000 n e))

-- a further digit makes the number too great
pub digit_past_at : (total i b : ℕ) (p : Option ℕ) (t : List ℕ) → i < length t → is_ascii_digit (get_or t i b) ≡ true → bounded 315576000000 (Some (with_digit p (get_or t i b))) ≡ None → bounded 315576000000 (seconds_behind p (Some total) (drop i t)) ≡ None
digit_past_at total i b p t h digit past = rw (drop-cons t i b, digit) (seconds_past 315576000000 (drop (suc i) t) (Some (with_digit p (get_or t i b))) (Some total) (λ k is. omega (arith, past_bound 315576000000 (with_digit p (get_or t i b)) past)))

-- a further part makes the seconds too many, or is none
pub part_past_at : (total i b : ℕ) (p : Option ℕ) (t : List ℕ) → i < length t → is_ascii_digit (get_or t i b) ≡ false → bounded 315576000000 (with_part total p (unit (get_or t i b))) ≡ None → bounded 315576000000 (seconds_behind p (Some total) (drop i t)) ≡ None
part_past_at total i b p t h digit past = rw (drop-cons t i b, digit) (part_past_any total (with_part total p (unit (get_or t i b))) (drop (suc i) t) past)
