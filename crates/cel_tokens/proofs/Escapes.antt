-- What stands between double quotes.
use Rattle.std.proofs.Common.{◌≡◌, ◌≢◌, ℕ, suc, ◌<◌, ◌≤◌, List, [], ◌∷◌, ◌++◌, length, get_or, inl, inr, refl, sym, ap, ap₂, ◌∙◌, arith, append_assoc, append-nil, encode_utf8}
use Rattle.std.proofs.lemmas.Bool.{cases_lt}
use Rattle.std.proofs.lemmas.Bool.Decides.{nat_tests}
use Rattle.std.proofs.lemmas.Str.{encode_ascii, inside_one}
use Rattle.cel_tokens.specs.Spelling.{quoted_byte, quoted_bytes}

pub quoted_bytes-append : (xs ys : List ℕ) → quoted_bytes (xs ++ ys) ≡ quoted_bytes xs ++ quoted_bytes ys
quoted_bytes-append [] ys = refl
quoted_bytes-append (x ∷ xs) ys = ap (λ l. quoted_byte x ++ l) (quoted_bytes-append xs ys) ∙ sym (append_assoc (quoted_byte x) _ _)

-- a character or byte without an escape
pub record IsPlain (b : ℕ) : Type 0 where
  pub no_backslash : b ≢ 92
  pub no_quote : b ≢ 34
  pub no_line_feed : b ≢ 10
  pub no_return : b ≢ 13
  pub no_tab : b ≢ 9

plain_byte : (b : ℕ) → IsPlain b → quoted_byte b ≡ b ∷ []
plain_byte b h = grind (arith, nat_tests)

high_plain : (b : ℕ) → 128 ≤ b → IsPlain b
high_plain b h = record {
  no_backslash = λ e. omega arith;
  no_quote = λ e. omega arith;
  no_line_feed = λ e. omega arith;
  no_return = λ e. omega arith;
  no_tab = λ e. omega arith;
}

high_bytes : (xs : List ℕ) → ((k : ℕ) → k < length xs → 128 ≤ get_or xs k 0) → quoted_bytes xs ≡ xs
high_bytes [] h = refl
high_bytes (x ∷ xs) h =
    let high : 128 ≤ x = h 0 (omega arith) in
    ap₂ (λ (a b : List ℕ). a ++ b) (plain_byte x (high_plain x high)) (high_bytes xs (λ k below. h (suc k) (omega arith)))

-- such a character passes unchanged
pub plain_character : (c : ℕ) → IsPlain c → quoted_bytes (encode_utf8 c) ≡ encode_utf8 c
plain_character c plain = elim (cases_lt c 128) [
  | inl small ↦ rw (encode_ascii c small, append-nil) (plain_byte c plain)
  | inr big ↦ high_bytes (encode_utf8 c) (λ k below. elim (cases_lt (get_or (encode_utf8 c) k 0) 128) [
    | inl low ↦ absurd (omega (arith, inside_one c [] (encode_utf8 c) k (sym (append-nil _)) below low))
    | inr high ↦ high
  ])
]
