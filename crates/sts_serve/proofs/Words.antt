-- Words of visible bytes.
use Rattle.std.proofs.Common.{◌≡◌, ◌≢◌, ◌<◌, ◌+◌, ◌⊎◌, inl, inr, ℕ, zero, suc, List, [], ◌∷◌, ◌++◌, length, take, drop, get_or, refl, sym, ◌∙◌, ap, subst, arith, append_assoc, length-append, length-take, take-append-drop}
use Rattle.std.proofs.lemmas.List.{append-nil, drop_more}
use Rattle.std.proofs.lemmas.Bool.Decides.{nat_tests}
use Rattle.std.specs.List.{AllByRecursion}
use Rattle.std.specs.Prelude.{Result, Ok, Err, MatchResult, IsOk, true, not, ◌&&◌}
use Rattle.std.specs.Str.{bytes_eq}
use Rattle.std.proofs.Common.{eq-eqb}
use Rattle.std.specs.Char.{digit_value}
use Rattle.std.specs.Str.Parse.{AllDigits}
use Rattle.sts_serve.specs.Frames.{IsWord, IsVisible}

-- a word that goes on behind visible bytes
pub record GoesOn (front more word : List ℕ) (separator : ℕ) (rest : List ℕ) : Type 0 where
  pub back : List ℕ
  pub word_is : word ≡ front ++ back
  pub more_is : more ≡ back ++ (separator ∷ rest)

pub goes_on : (separator : ℕ) (front more word rest : List ℕ) → separator < 33 → AllByRecursion IsVisible front → front ++ more ≡ word ++ (separator ∷ rest) → GoesOn front more word separator rest
goes_on separator [] more word rest low all same = record { back = word; word_is = refl; more_is = same }
goes_on separator (a ∷ front) more [] rest low all same = let head : a ≡ separator = cc same in absurd (omega (arith, all.0.0))
goes_on separator (a ∷ front) more (w ∷ word) rest low all same =
    let head : a ≡ w = cc same in
    let tail : front ++ more ≡ word ++ (separator ∷ rest) = cc same in
    let on = goes_on separator front more word rest low all.1 tail in
    let words : w ∷ word ≡ a ∷ (front ++ on.back) = cc (head, on.word_is) in
    record { back = on.back; word_is = words; more_is = on.more_is }

-- visible bytes alone hold no separator
pub no_separator : (separator : ℕ) (bytes word rest : List ℕ) → separator < 33 → AllByRecursion IsVisible bytes → bytes ≡ word ++ (separator ∷ rest) → ⊥
no_separator separator bytes word rest low all same =
    let on = goes_on separator bytes [] word rest low all (append-nil bytes ∙ same) in
    omega (arith, ap length on.more_is, length-append on.back (separator ∷ rest))

-- a byte that is neither visible nor the separator, or a word that is too long
pub stopped : (separator longest : ℕ) (front more word rest : List ℕ) (byte : ℕ) → separator < 33 → AllByRecursion IsVisible front → IsWord longest word
    → ((byte < 33) ⊎ ((126 < byte) ⊎ (length front ≡ longest))) → byte ≢ separator → front ++ (byte ∷ more) ≡ word ++ (separator ∷ rest) → ⊥
stopped separator longest front more word rest byte low all is why not same = at on.back on.word_is on.more_is
  where
    on : GoesOn front (byte ∷ more) word separator rest
    on = goes_on separator front (byte ∷ more) word rest low all same

    last : (a b : List ℕ) → AllByRecursion IsVisible (a ++ b) → AllByRecursion IsVisible b
    last [] b every = every
    last (x ∷ a) b every = last a b every.1

    at : (back : List ℕ) → word ≡ front ++ back → byte ∷ more ≡ back ++ (separator ∷ rest) → ⊥
    at [] words mores = not (cc mores)
    at (b ∷ back) words mores =
        let here : byte ≡ b = cc mores in
        let visible : IsVisible b = (last front (b ∷ back) (subst (λ (l : List ℕ). AllByRecursion IsVisible l) words is.2)).0 in
        elim why [
          | inl small ↦ omega (arith, small, here, visible.0)
          | inr more ↦ elim more [
            | inl big ↦ omega (arith, big, here, visible.1)
            | inr long ↦ omega (arith, long, is.1, ap length words, length-append front (b ∷ back))
          ]
        ]

pub visible_digit : (c : ℕ) → digit_value c < 10 → IsVisible c
visible_digit c digit = (grind (arith, nat_tests), grind (arith, nat_tests))

pub visible_digits : (ds : List ℕ) → AllDigits 10 ds → AllByRecursion IsVisible ds
visible_digits [] all = tt
visible_digits (d ∷ ds) all = (visible_digit d all.0, visible_digits ds all.1)

pub refused : (separator longest : ℕ) (bytes : List ℕ) (i : ℕ) → separator < 33 → i < length bytes → AllByRecursion IsVisible (take i bytes)
    → ((get_or bytes i 0 < 33) ⊎ ((126 < get_or bytes i 0) ⊎ (i ≡ longest))) → get_or bytes i 0 ≢ separator
    → (bytes ≢ []) × ((word rest more : List ℕ) → IsWord longest word → bytes ++ more ≡ word ++ (separator ∷ rest) → ⊥)
refused separator longest bytes i low within all why not = (
  (λ none. omega (arith, ap length none)),
  λ word rest more is same. stopped separator longest (take i bytes) (drop (i + 1) bytes ++ more) word rest (get_or bytes i 0) low all is long not
      (sym (append_assoc (take i bytes) (get_or bytes i 0 ∷ drop (i + 1) bytes) more) ∙ ap (λ (l : List ℕ). l ++ more) (sym split) ∙ same),
)
  where
    size : length (take i bytes) ≡ i
    size = omega (arith, length-take i bytes)

    long : (get_or bytes i 0 < 33) ⊎ ((126 < get_or bytes i 0) ⊎ (length (take i bytes) ≡ longest))
    long = elim why [ inl small ↦ inl small | inr more ↦ elim more [ inl big ↦ inr (inl big) | inr at ↦ inr (inr (size ∙ at)) ] ]

    split : bytes ≡ take i bytes ++ (get_or bytes i 0 ∷ drop (i + 1) bytes)
    split = sym (take-append-drop i bytes) ∙ ap (λ (l : List ℕ). take i bytes ++ l) (drop_more bytes i 0 within)

pub visible_ascii : (bytes : List ℕ) → AllByRecursion IsVisible bytes → (i : ℕ) → get_or bytes i 0 < 128
visible_ascii [] all i = omega arith
visible_ascii (b ∷ bytes) all zero = omega (arith, all.0.1)
visible_ascii (b ∷ bytes) all (suc i) = visible_ascii bytes all.1 i

pub ok_of : {T E : Type 0} (r : Result T E) (P : T → Type 0) (Q : E → Type 0) → MatchResult r P Q → ((e : E) → Q e → ⊥) → IsOk r
ok_of (Ok x) P Q cases never = refl
ok_of (Err e) P Q cases never = absurd (never e cases)

pub differs : (xs ys : List ℕ) → true ≡ not (bytes_eq xs ys) → xs ≢ ys
differs xs ys unequal same = bytes_unequal ys (subst (λ (l : List ℕ). true ≡ not (bytes_eq l ys)) same unequal)
  where
    bytes_unequal : (ys : List ℕ) → true ≡ not (bytes_eq ys ys) → ⊥
    bytes_unequal [] unequal = cc unequal
    bytes_unequal (y ∷ ys) unequal = bytes_unequal ys (subst (λ b. true ≡ not (b && bytes_eq ys ys)) (eq-eqb y y refl) unequal)
