-- What std says of the first place of a part gives the cut around it.
use denote.Ref.{Bor}
use Rattle.std.proofs.Common.{◌≡◌, ◌≢◌, ◌⊎◌, ◌<◌, ◌≤◌, ◌+◌, ℕ, zero, suc, Bool, true, false, List, [], ◌∷◌, ◌++◌, length, take, drop, Option, None, Some, option_map, refl, sym, ap, inl, inr, ◌∙◌, arith}
use Rattle.std.specs.Option.{MatchOption}
use Rattle.std.specs.Str.Pattern.{LacksTextAt, HasTextAt, FindsText, SplitsAroundMatch}
use Rattle.std.proofs.lemmas.Slice.Eq.{bytes_eq-Decides}
use Rattle.cel_builtins.specs.Texts.{has_front, cut_around}

pub truth : (b : Bool) → (b ≡ true) ⊎ (b ≡ false)
truth true = inl refl
truth false = inr refl

take_front : (part rest : List ℕ) → take (length part) (part ++ rest) ≡ part
take_front [] rest = refl
take_front (b ∷ part) rest = ap (λ t. b ∷ t) (take_front part rest)

whole : (n : ℕ) (text : List ℕ) → text ≡ take n text ++ drop n text
whole zero text = refl
whole (suc n) [] = refl
whole (suc n) (b ∷ text) = ap (λ t. b ∷ t) (whole n text)

pub front_is : (text part : List ℕ) → has_front text part ≡ true → text ≡ part ++ drop (length part) text
front_is text part e = whole (length part) text ∙ ap (λ t. t ++ drop (length part) text) ((bytes_eq-Decides (take (length part) text) part).0 e)

front_lacks : (text part : List ℕ) → ((rest : List ℕ) → text ≢ part ++ rest) → has_front text part ≡ false
front_lacks text part lacks = elim (truth (has_front text part)) [
  | inl e ↦ absurd (lacks (drop (length part) text) (front_is text part e))
  | inr e ↦ e
]

front_has : (text part rest : List ℕ) → text ≡ part ++ rest → has_front text part ≡ true
front_has text part rest e = (bytes_eq-Decides (take (length part) text) part).1 (ap (take (length part)) e ∙ take_front part rest)

-- the part stands nowhere
cut_none : (part text : List ℕ) → ((i : ℕ) → i ≤ length text → LacksTextAt part text i) → cut_around part text ≡ None
cut_none part [] lacks = rw (front_lacks [] part (λ rest e. lacks 0 (omega arith) rest e)) refl
cut_none part (b ∷ text) lacks =
    rw (front_lacks (b ∷ text) part (λ rest e. lacks 0 (omega arith) rest e), cut_none part text (λ i h rest e. lacks (suc i) (omega (arith, h)) rest e)) refl

-- the part stands first at i
cut_some : (part text : List ℕ) (i j : ℕ) → ((k : ℕ) → k < i → LacksTextAt part text k) → drop i text ≡ part ++ drop j text → j ≡ i + length part → cut_around part text ≡ Some (take i text, drop j text)
cut_some [] [] zero zero lacks has ends = refl
cut_some [] [] zero (suc j) lacks has ends = absurd (omega (arith, ends))
cut_some (p ∷ part) [] zero j lacks has ends = absurd (cc)
cut_some [] [] (suc i) j lacks has ends = absurd (lacks 0 (omega arith) [] refl)
cut_some (p ∷ part) [] (suc i) j lacks has ends = absurd (cc)
cut_some part (b ∷ text) zero j lacks has ends =
    let same : j ≡ length part = omega (arith, ends) in
    rw (front_has (b ∷ text) part _ has, same) refl
cut_some part (b ∷ text) (suc i) zero lacks has ends = absurd (omega (arith, ends))
cut_some part (b ∷ text) (suc i) (suc j) lacks has ends =
    rw (front_lacks (b ∷ text) part (λ rest e. lacks 0 (omega arith) rest e), cut_some part text i j (λ k h rest e. lacks (suc k) (omega (arith, h)) rest e) has (omega (arith, ends))) refl

pub cut_result : (part text : List ℕ) (r : Option (Bor (List ℕ) × Bor (List ℕ))) → MatchOption r (FindsText part text None) (λ x. SplitsAroundMatch (FindsText part) text x.0.now x.1.now) → option_map (λ cut. (cut.0.now, cut.1.now)) r ≡ cut_around part text
cut_result part text None h = sym (cut_none part text h)
cut_result part text (Some x) h =
    let at : HasTextAt part text h.0 h.1 = h.2.1 in
    let cut = cut_some part text h.0 h.1 h.2.0 at.split at.ends in
    let sides : (x.0.now, x.1.now) ≡ (take h.0 text, drop h.1 text) = ap (λ f. (f, x.1.now)) h.3 ∙ ap (λ t. (take h.0 text, t)) h.4 in
    ap (λ p. Some p) sides ∙ sym cut
