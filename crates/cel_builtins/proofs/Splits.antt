-- The pieces of a text, one after another, and joined texts.
use Rattle.std.proofs.Common.{◌≡◌, ◌<◌, ◌≤◌, ◌+◌, ℕ, zero, suc, true, List, [], ◌∷◌, length, drop, Option, None, Some, subst, refl, sym, ap, inl, inr, ◌∙◌, arith, length-append}
use Rattle.cel_builtins.specs.Texts.{has_front, cut_around, behind_byte, pieces_around, pieces_upto, pieces}
use Rattle.cel_builtins.proofs.Cuts.{truth, front_is}

abbrev Cut : Type 0
Cut = List ℕ × List ℕ

-- how long what is behind the cut may be
abbrev behind_short : ℕ → ℕ → Option Cut → Type 0
behind_short sep n None = Unit {0}
behind_short sep n (Some c) = sep + length c.1 ≤ n

behind_more : (sep n b : ℕ) (o : Option Cut) → behind_short sep n o → behind_short sep (suc n) (behind_byte b o)
behind_more sep n b None h = tt
behind_more sep n b (Some c) h = omega (arith, h)

front_length : (text part : List ℕ) → has_front text part ≡ true → length part + length (drop (length part) text) ≡ length text
front_length text part e = sym (ap length (front_is text part e) ∙ length-append part (drop (length part) text))

short : (sep text : List ℕ) → behind_short (length sep) (length text) (cut_around sep text)
short sep [] = elim (truth (has_front [] sep)) [
  | inl e ↦ rw e (omega (arith, front_length [] sep e))
  | inr e ↦ rw e tt
]
short sep (b ∷ text) = elim (truth (has_front (b ∷ text) sep)) [
  | inl e ↦ rw e (omega (arith, front_length (b ∷ text) sep e))
  | inr e ↦ rw e (behind_more (length sep) (length text) b (cut_around sep text) (short sep text))
]

pub shorter : (sep text : List ℕ) (c : Cut) → 1 ≤ length sep → cut_around sep text ≡ Some c → length c.1 < length text
shorter sep text c some e = let h : behind_short (length sep) (length text) (Some c) = subst (behind_short (length sep) (length text)) e (short sep text) in omega (arith, h, some)

around_same : (f g : List ℕ → List (List ℕ)) (text : List ℕ) (o : Option Cut) → ((c : Cut) → o ≡ Some c → f c.1 ≡ g c.1) → pieces_around f text o ≡ pieces_around g text o
around_same f g text None h = refl
around_same f g text (Some c) h = ap (λ rest. c.0 ∷ rest) (h c refl)

empty_none : (sep : List ℕ) → 1 ≤ length sep → cut_around sep [] ≡ None
empty_none [] h = absurd (omega (arith, h))
empty_none (b ∷ sep) h = refl

same : (n m : ℕ) (sep text : List ℕ) → 1 ≤ length sep → length text ≤ n → length text ≤ m → pieces_upto n sep text ≡ pieces_upto m sep text
same zero zero sep text some h k = refl
same zero (suc m) sep [] some h k = rw (empty_none sep some) refl
same zero (suc m) sep (b ∷ text) some h k = absurd (omega (arith, h))
same (suc n) zero sep [] some h k = rw (empty_none sep some) refl
same (suc n) zero sep (b ∷ text) some h k = absurd (omega (arith, k))
same (suc n) (suc m) sep text some h k =
    around_same (pieces_upto n sep) (pieces_upto m sep) text (cut_around sep text)
    (λ c e. let less = shorter sep text c some e in same n m sep c.1 some (omega (arith, less, h)) (omega (arith, less, k)))

next : (sep text : List ℕ) → 1 ≤ length sep → pieces sep text ≡ pieces_around (pieces sep) text (cut_around sep text)
next sep text some =
    same (length text) (suc (length text)) sep text some (omega arith) (omega arith)
    ∙ around_same (pieces_upto (length text) sep) (pieces sep) text (cut_around sep text)
    (λ c e. let less = shorter sep text c some e in same (length text) (length c.1) sep c.1 some (omega (arith, less)) (omega arith))

pub pieces_some : (sep text front back : List ℕ) → 1 ≤ length sep → cut_around sep text ≡ Some (front, back) → pieces sep text ≡ front ∷ pieces sep back
pieces_some sep text front back some e = next sep text some ∙ ap (pieces_around (pieces sep) text) e

pub pieces_none : (sep text : List ℕ) → 1 ≤ length sep → cut_around sep text ≡ None → pieces sep text ≡ text ∷ []
pieces_none sep text some e = next sep text some ∙ ap (pieces_around (pieces sep) text) e
