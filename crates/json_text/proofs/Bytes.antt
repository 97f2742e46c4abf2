-- UTF-8 is made of bytes.
use Rattle.std.proofs.Common.{◌≡◌, ℕ, zero, suc, ◌+◌, ◌/◌, ◌%◌, ◌<◌, Bool, true, false, ◌&&◌, cond, List, [], ◌∷◌, nat_lt, ltb, refl, sym, ap, ◌∙◌, arith, slice_index, ⊎_elim}
use Rattle.std.specs.Str.{IsUtf8}
use Rattle.std.specs.List.{list_all}
use Rattle.std.proofs.lemmas.Bool.Decides.{Decides-ltb}
use Rattle.std.proofs.lemmas.List.Folds.{list_all-append}
use Rattle.std.proofs.Math.Utf8.{scalar, scalars, scalar_cases, encode, encodes}

abbrev is_byte : ℕ → Bool
is_byte byte = nat_lt byte 256

both : (a b : Bool) → (a && b) ≡ true → (a ≡ true) × (b ≡ true)
both true b h = (refl, h)
both false b h = cc

passes_at : (p : ℕ → Bool) (xs : List ℕ) (i : ℕ) → p 0 ≡ true → list_all p xs ≡ true → p (slice_index xs i) ≡ true
passes_at p [] i past all = past
passes_at p (x ∷ xs) zero past all = (both (p x) (list_all p xs) all).0
passes_at p (x ∷ xs) (suc i) past all = passes_at p xs i past (both (p x) (list_all p xs) all).1

is_byte-below : (n : ℕ) → n < 256 → is_byte n ≡ true
is_byte-below n h = (Decides-ltb n 256).1 h

low : (c : ℕ) → scalar c ≡ true → c < 1114112
low c h = ⊎_elim (λ below. omega arith) (λ within. within.1) (scalar_cases c h)

follower : (n : ℕ) → is_byte (128 + n % 64) ≡ true
follower n = is_byte-below (128 + n % 64) (omega arith)

encode-bytes : (c : ℕ) → c < 1114112 → list_all is_byte (encode c) ≡ true
unfolding encode
encode-bytes c h = by_tests (ltb c 128) (ltb c 2048) (ltb c 65536) refl refl refl
  where
    by_tests : (x y z : Bool) → ltb c 128 ≡ x → ltb c 2048 ≡ y → ltb c 65536 ≡ z
        → list_all is_byte (cond x (c ∷ []) (cond y ((192 + c / 64) ∷ (128 + c % 64) ∷ []) (cond z ((224 + c / 4096) ∷ (128 + (c / 64) % 64) ∷ (128 + c % 64) ∷ []) ((240 + c / 262144) ∷ (128 + (c / 4096) % 64) ∷ (128 + (c / 64) % 64) ∷ (128 + c % 64) ∷ [])))) ≡ true
    by_tests true y z e f g =
        let small : c < 128 = (Decides-ltb c 128).0 e in
        rw (is_byte-below c (omega arith)) refl
    by_tests false true z e f g =
        let small : c < 2048 = (Decides-ltb c 2048).0 f in
        rw (is_byte-below (192 + c / 64) (omega arith), follower c) refl
    by_tests false false true e f g =
        let small : c < 65536 = (Decides-ltb c 65536).0 g in
        rw (is_byte-below (224 + c / 4096) (omega arith), follower (c / 64), follower c) refl
    by_tests false false false e f g =
        rw (is_byte-below (240 + c / 262144) (omega arith), follower (c / 4096), follower (c / 64), follower c) refl

encodes-bytes : (cs : List ℕ) → scalars cs ≡ true → list_all is_byte (encodes cs) ≡ true
encodes-bytes [] h = refl
encodes-bytes (c ∷ cs) h =
    let parts = both (scalar c) (scalars cs) h in
    list_all-append is_byte (encode c) (encodes cs) ∙ rw (encode-bytes c (low c parts.0), encodes-bytes cs parts.1) refl

pub bytes-IsUtf8 : (text : List ℕ) → IsUtf8 text → (i : ℕ) → slice_index text i < 256
bytes-IsUtf8 text is =
    let all : list_all is_byte text ≡ true = ap (list_all is_byte) (sym is.1.1) ∙ encodes-bytes is.0 is.1.0 in
    λ i. (Decides-ltb (slice_index text i) 256).0 (passes_at is_byte text i refl all)
