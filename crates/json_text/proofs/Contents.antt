-- What a string of a UTF-8 text stands for is UTF-8.
use Rattle.std.proofs.Common.{◌≡◌, ℕ, ◌+◌, ◌*◌, ◌<◌, ◌≤◌, true, false, ◌&&◌, ◌==◌, nat_lt, List, [], ◌∷◌, ◌++◌, length, Option, Some, None, option_and_then, IfSome, inl, inr, ◌⊎◌, ⊎_elim, ◌∙◌, refl, sym, subst, arith, append_assoc, append-nil, length-append}
use Rattle.std.specs.Str.{IsUtf8}
use Rattle.std.specs.Char.{IsScalar, digit_value, is_digit, encode_utf8}
use Rattle.std.proofs.Math.Utf8.{low_scalar}
use Rattle.std.proofs.lemmas.Bool.{and_parts, and_from, and_cases, cond_both, eqb-true, ltb-true, ltb-false, leb-true, leb-false, le-ltb, lt-ltb, le-leb, cond-false}
use Rattle.std.proofs.lemmas.List.{take_at, drop_at, get_or_at}
use Rattle.std.proofs.lemmas.Str.{IsUtf8-append, IsUtf8-encode, IsUtf8-take, IsUtf8-drop, IsCharBoundary-before_ascii, IsCharBoundary-after_ascii}
use Rattle.json.specs.Text.{code_unit, short_escape, is_high_surrogate, is_low_surrogate, surrogate_pair, Within, plain, after_backslash, after_u, after_high, prepend, content}
use Rattle.json.proofs.Printed.Utf8.{IsUtf8-are_ascii}

-- ---- a UTF-8 text, cut at an ASCII byte

before_ascii : (front : List ℕ) (x : ℕ) (xs : List ℕ) → x < 128 → IsUtf8 (front ++ x ∷ xs) → IsUtf8 front
before_ascii front x xs small u =
    let whole = front ++ x ∷ xs in
    let n = length front in
    let cut = IsCharBoundary-before_ascii whole n (omega (arith, length-append front (x ∷ xs))) (omega (arith, get_or_at front x xs 0 n refl)) in
    subst IsUtf8 (take_at front (x ∷ xs) n refl) (IsUtf8-take whole n u cut)

pub after_ascii : (front : List ℕ) (x : ℕ) (xs : List ℕ) → x < 128 → IsUtf8 (front ++ x ∷ xs) → IsUtf8 xs
after_ascii front x xs small u =
    let whole = front ++ x ∷ xs in
    let n = length front in
    let cut = IsCharBoundary-after_ascii whole n u (omega (arith, length-append front (x ∷ xs))) (omega (arith, get_or_at front x xs 0 n refl)) in
    let same : (front ++ x ∷ []) ++ xs ≡ whole = append_assoc front (x ∷ []) xs in
    let rest = IsUtf8-drop whole (n + 1) u cut in
    subst IsUtf8 (drop_at (front ++ x ∷ []) xs (n + 1) (omega (arith, length-append front (x ∷ [])))) (rw same rest)

-- ---- what the escapes stand for

digit_ascii : (c : ℕ) → is_digit c 16 ≡ true → c < 128
digit_ascii c is = grind arith

abbrev IsShort : ℕ → ℕ → Type 0
IsShort x c = (c < 128) × (x < 128)

short_ascii : (x : ℕ) → IfSome (short_escape x) (IsShort x)
unfolding short_escape
short_ascii x = grind arith

record IsUnit (a b c d u : ℕ) : Type 0 where
  a_ascii : a < 128
  b_ascii : b < 128
  c_ascii : c < 128
  d_ascii : d < 128
  small : u < 65536

four_digits : (p q r s : ℕ) → p < 16 → q < 16 → r < 16 → s < 16 → p * 4096 + q * 256 + r * 16 + s < 65536
four_digits p q r s a b c d = omega arith

unit_ascii : (a b c d : ℕ) → IfSome (code_unit a b c d) (IsUnit a b c d)
unfolding code_unit
unit_ascii a b c d = cond_both (is_digit a 16 && is_digit b 16 && is_digit c 16 && is_digit d 16) _ None (λ o. IfSome o (IsUnit a b c d)) are_digits (λ other. tt)
  where
    are_digits : (is_digit a 16 && is_digit b 16 && is_digit c 16 && is_digit d 16) ≡ true → IsUnit a b c d (digit_value a * 4096 + digit_value b * 256 + digit_value c * 16 + digit_value d)
    are_digits all =
        let p = and_parts (is_digit a 16 && is_digit b 16 && is_digit c 16) (is_digit d 16) all in
        let q = and_parts (is_digit a 16 && is_digit b 16) (is_digit c 16) p.0 in
        let r = and_parts (is_digit a 16) (is_digit b 16) q.0 in
        record {
          a_ascii = digit_ascii a r.0;
          b_ascii = digit_ascii b r.1;
          c_ascii = digit_ascii c q.1;
          d_ascii = digit_ascii d p.1;
          small = four_digits _ _ _ _ (ltb-true _ 16 r.0) (ltb-true _ 16 r.1) (ltb-true _ 16 q.1) (ltb-true _ 16 p.1);
        }

from_ranges : (c : ℕ) → 57344 ≤ c → c < 1114112 → IsScalar c
from_ranges c low high = cond-false _ _ _ (le-ltb c 55296 (omega arith)) ∙ and_from _ _ (le-leb 57344 c low) (lt-ltb c 1114112 high)

not_high : (u : ℕ) → is_high_surrogate u ≡ false → (u < 55296) ⊎ (56320 ≤ u)
not_high u other = ⊎_elim (λ low. inl (leb-false 55296 u low)) (λ past. inr (ltb-false u 56320 past)) (and_cases _ _ other)

not_low : (u : ℕ) → is_low_surrogate u ≡ false → (u < 56320) ⊎ (57344 ≤ u)
not_low u other = ⊎_elim (λ low. inl (leb-false 56320 u low)) (λ past. inr (ltb-false u 57344 past)) (and_cases _ _ other)

plain_scalar : (u : ℕ) → u < 65536 → is_high_surrogate u ≡ false → is_low_surrogate u ≡ false → IsScalar u
plain_scalar u small high low =
    ⊎_elim (λ below. low_scalar u below) (λ above. ⊎_elim (λ below. absurd (omega arith)) (λ past. from_ranges u past (omega arith)) (not_low u low)) (not_high u high)

pair_scalar : (h l : ℕ) → is_high_surrogate h ≡ true → is_low_surrogate l ≡ true → IsScalar (surrogate_pair h l)
pair_scalar h l high low =
    let a = and_parts _ _ high in
    let b = and_parts _ _ low in
    let from : 55296 ≤ h = leb-true 55296 h a.0 in
    let to : h < 56320 = ltb-true h 56320 a.1 in
    let second : 56320 ≤ l = leb-true 56320 l b.0 in
    let last : l < 57344 = ltb-true l 57344 b.1 in
    from_ranges (surrogate_pair h l) (omega arith) (omega arith)

-- ---- the bytes that come after `front`

abbrev IsUtf8After : List ℕ → Option (List ℕ) → Type 0
IsUtf8After front o = IfSome o (λ s. IsUtf8 (front ++ s))

after_bytes : (front bytes : List ℕ) (o : Option (List ℕ)) → IsUtf8After (front ++ bytes) o → IsUtf8After front (prepend bytes o)
after_bytes front bytes None h = tt
after_bytes front bytes (Some s) h = subst IsUtf8 (append_assoc front bytes s) h

after_found : (front : List ℕ) (P : ℕ → Type 0) (f : ℕ → Option (List ℕ)) (o : Option ℕ) → IfSome o P → ((u : ℕ) → P u → IsUtf8After front (f u)) → IsUtf8After front (option_and_then f o)
after_found front P f None h next = tt
after_found front P f (Some u) h next = next u h

-- how `front` and what follows it must stand: in plain bytes a character may be cut between them
abbrev AreReady : Within → List ℕ → List ℕ → Type 0
AreReady plain front xs = IsUtf8 (front ++ xs)
AreReady after_backslash front xs = IsUtf8 front × IsUtf8 xs
AreReady after_u front xs = IsUtf8 front × IsUtf8 xs
AreReady (after_high h) front xs = IsUtf8 front × IsUtf8 xs × (is_high_surrogate h ≡ true)

more_ready : (front bytes xs : List ℕ) → IsUtf8 front → IsUtf8 bytes → IsUtf8 xs → IsUtf8 ((front ++ bytes) ++ xs)
more_ready front bytes xs a b c = IsUtf8-append (front ++ bytes) xs (IsUtf8-append front bytes a b) c

short_utf8 : (c : ℕ) → c < 128 → IsUtf8 (c ∷ [])
short_utf8 c small = IsUtf8-are_ascii (c ∷ []) (and_from _ _ (lt-ltb c 128 small) refl)

after_unit : (a b c d u : ℕ) (xs : List ℕ) → IsUnit a b c d u → IsUtf8 (a ∷ b ∷ c ∷ d ∷ xs) → IsUtf8 xs
after_unit a b c d u xs is utf8 =
    after_ascii [] d xs is.d_ascii (after_ascii [] c (d ∷ xs) is.c_ascii (after_ascii [] b (c ∷ d ∷ xs) is.b_ascii (after_ascii [] a (b ∷ c ∷ d ∷ xs) is.a_ascii utf8)))

content_after : (w : Within) (front xs : List ℕ) → AreReady w front xs → IsUtf8After front (content w xs)
unfolding content
content_after plain front [] h = tt
content_after plain front (x ∷ xs) h =
    cond_both (x == 34) _ _ (IsUtf8After front)
    (λ is. subst IsUtf8 (sym (append-nil front)) (before_ascii front x xs (omega (arith, eqb-true x 34 is)) h))
    (λ other. cond_both (x == 92) _ _ (IsUtf8After front)
    (λ is. content_after after_backslash front xs (before_ascii front x xs (omega (arith, eqb-true x 92 is)) h, after_ascii front x xs (omega (arith, eqb-true x 92 is)) h))
    (λ other. cond_both (nat_lt x 32) _ _ (IsUtf8After front) (λ is. tt)
    (λ other. after_bytes front (x ∷ []) _ (content_after plain (front ++ x ∷ []) xs (subst IsUtf8 (sym (append_assoc front (x ∷ []) xs)) h)))))
content_after after_backslash front [] h = tt
content_after after_backslash front (x ∷ xs) h =
    cond_both (x == 117) _ _ (IsUtf8After front)
    (λ is. content_after after_u front xs (h.0, after_ascii [] x xs (omega (arith, eqb-true x 117 is)) h.1))
    (λ other. after_found front (IsShort x) _ (short_escape x) (short_ascii x)
    (λ c is. after_bytes front (c ∷ []) _ (content_after plain (front ++ c ∷ []) xs (more_ready front (c ∷ []) xs h.0 (short_utf8 c is.0) (after_ascii [] x xs is.1 h.1)))))
content_after after_u front [] h = tt
content_after after_u front (a ∷ []) h = tt
content_after after_u front (a ∷ b ∷ []) h = tt
content_after after_u front (a ∷ b ∷ c ∷ []) h = tt
content_after after_u front (a ∷ b ∷ c ∷ d ∷ xs) h =
    after_found front (IsUnit a b c d) _ (code_unit a b c d) (unit_ascii a b c d) (λ u is.
    cond_both (is_high_surrogate u) _ _ (IsUtf8After front) (λ high. content_after (after_high u) front xs (h.0, after_unit a b c d u xs is h.1, high))
    (λ high. cond_both (is_low_surrogate u) _ _ (IsUtf8After front) (λ low. tt)
    (λ low. after_bytes front (encode_utf8 u) _ (content_after plain (front ++ encode_utf8 u) xs
    (more_ready front (encode_utf8 u) xs h.0 (IsUtf8-encode u (plain_scalar u is.small high low)) (after_unit a b c d u xs is h.1))))))
content_after (after_high high) front [] h = tt
content_after (after_high high) front (s ∷ []) h = tt
content_after (after_high high) front (s ∷ u ∷ []) h = tt
content_after (after_high high) front (s ∷ u ∷ a ∷ []) h = tt
content_after (after_high high) front (s ∷ u ∷ a ∷ b ∷ []) h = tt
content_after (after_high high) front (s ∷ u ∷ a ∷ b ∷ c ∷ []) h = tt
content_after (after_high high) front (s ∷ u ∷ a ∷ b ∷ c ∷ d ∷ xs) h =
    cond_both ((s == 92) && (u == 117)) _ _ (IsUtf8After front)
    (λ both. after_found front (IsUnit a b c d) _ (code_unit a b c d) (unit_ascii a b c d) (λ l is.
    let marks = and_parts (s == 92) (u == 117) both in
    let rest = after_unit a b c d l xs is (after_ascii [] u (a ∷ b ∷ c ∷ d ∷ xs) (omega (arith, eqb-true u 117 marks.1)) (after_ascii [] s (u ∷ a ∷ b ∷ c ∷ d ∷ xs) (omega (arith, eqb-true s 92 marks.0)) h.1)) in
    cond_both (is_low_surrogate l) _ _ (IsUtf8After front)
    (λ low. after_bytes front (encode_utf8 (surrogate_pair high l)) _ (content_after plain (front ++ encode_utf8 (surrogate_pair high l)) xs
    (more_ready front (encode_utf8 (surrogate_pair high l)) xs h.0 (IsUtf8-encode (surrogate_pair high l) (pair_scalar high l h.2 low)) rest)))
    (λ other. tt)))
    (λ other. tt)

pub content_utf8 : (xs : List ℕ) → IsUtf8 xs → IfSome (content plain xs) IsUtf8
content_utf8 xs u = content_after plain [] xs u
