-- A span whose seconds are read up to the bound.
use Rattle.std.proofs.Common.{◌≡◌, ◌<◌, ◌≤◌, ℕ, pos, neg_ℤ, true, false, nat_le, List, Option, None, Some, option_map, Ok, Err, refl, ap, inl, inr, arith}
use Rattle.std.specs.Str.Parse.{starts_with_minus}
use Rattle.std.proofs.lemmas.Int.{ints}
use Rattle.cel_values.specs.declared.error.EvalError.TheVariants.{BadText}
use Rattle.cel_values.specs.declared.value.Value.TheVariants as variant
use Rattle.cel_builtins.specs.Bounds.{bounded}
use Rattle.cel_builtins.specs.Numbers.{is_span}
use Rattle.cel_builtins.specs.Durations.{signed, where_good, span_value, span_in, parts_seconds, unsigned_text}
use Rattle.cel_builtins.proofs.Read.{truth, past_bound}

long : (n : ℕ) → 315576000000 < n → (is_span (pos n) ≡ false) × (is_span (neg_ℤ (pos n)) ≡ false)
long n h = (grind (arith, ints), grind (arith, ints))

short : (n : ℕ) → n ≤ 315576000000 → (is_span (pos n) ≡ true) × (is_span (neg_ℤ (pos n)) ≡ true)
short n h = (grind (arith, ints), grind (arith, ints))

signed_long : (text : List ℕ) (n : ℕ) → 315576000000 < n → is_span (signed text n) ≡ false
signed_long text n h = elim (truth (starts_with_minus text)) [ inl e ↦ rw e ((long n h).1) | inr e ↦ rw e ((long n h).0) ]

signed_short : (text : List ℕ) (n : ℕ) → n ≤ 315576000000 → is_span (signed text n) ≡ true
signed_short text n h = elim (truth (starts_with_minus text)) [ inl e ↦ rw e ((short n h).1) | inr e ↦ rw e ((short n h).0) ]

past : (text : List ℕ) (o : Option ℕ) → bounded 315576000000 o ≡ None → where_good is_span span_value (option_map (signed text) o) ≡ Err BadText
past text None e = refl
past text (Some n) e = rw (signed_long text n (past_bound 315576000000 n e)) refl

within : (n k : ℕ) → bounded 315576000000 (Some n) ≡ Some k → (n ≤ 315576000000) × (n ≡ k)
within n k e = elim (truth (nat_le n 315576000000)) [
  | inl h ↦ let same : bounded 315576000000 (Some n) ≡ Some n = rw h refl in let n-k : n ≡ k = cc in (grind arith, n-k)
  | inr h ↦ let none : bounded 315576000000 (Some n) ≡ None = rw h refl in absurd (cc)
]

some : (text : List ℕ) (o : Option ℕ) (k : ℕ) → bounded 315576000000 o ≡ Some k → where_good is_span span_value (option_map (signed text) o) ≡ Ok (variant.Span (signed text k))
some text None k e = absurd (cc)
some text (Some n) k e =
    let h = within n k e in
    (let good : is_span (signed text n) ≡ true = signed_short text n h.0 in rw (good) (ap (λ m. Ok (variant.Span (signed text m))) h.1))

pub span_past : (text : List ℕ) → bounded 315576000000 (parts_seconds (unsigned_text text)) ≡ None → span_in text ≡ Err BadText
span_past text e = past text (parts_seconds (unsigned_text text)) e

pub span_some : (text : List ℕ) (k : ℕ) → bounded 315576000000 (parts_seconds (unsigned_text text)) ≡ Some k → span_in text ≡ Ok (variant.Span (signed text k))
span_some text k e = some text (parts_seconds (unsigned_text text)) k e
