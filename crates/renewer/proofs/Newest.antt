-- A renewal behind the newest.
use Rattle.std.proofs.Common.{◌≡◌, ◌≤◌, ℕ, suc, ◌+◌, ◌-◌, List, [], ◌∷◌, ◌++◌, length, refl, sym, ◌∙◌, ap, subst, arith}
use Rattle.std.specs.Prelude.{Option, None, IfSome, slice_get}
use Rattle.renewer.specs.Histories.{IsUncovered, NoWaste, NoWasteFrom, newest}
use Rattle.renewer.specs.declared.renewal.Renewal.{Renewal}

newest-cons : (x y : Renewal) (rest : List Renewal) → newest (x ∷ y ∷ rest) ≡ newest (y ∷ rest)
newest-cons x y rest =
    let at : length (x ∷ y ∷ rest) - 1 ≡ suc (length (y ∷ rest) - 1) = omega arith in
    ap (slice_get (x ∷ y ∷ rest)) at

waste_from : (margin : ℕ) (x : Renewal) (history : List Renewal) (r : Renewal) → NoWasteFrom margin x history
    → IfSome (newest (x ∷ history)) (λ n. n.exp ≤ r.asked + margin) → NoWasteFrom margin x (history ++ r ∷ [])
waste_from margin x [] r waste late = (late, tt)
waste_from margin x (y ∷ rest) r waste late =
    (waste.0, waste_from margin y rest r waste.1 (subst (λ (o : Option Renewal). IfSome o (λ n. n.exp ≤ r.asked + margin)) (newest-cons x y rest) late))

pub waste-push : (margin at : ℕ) (history : List Renewal) (r : Renewal) → NoWaste margin history → IsUncovered margin at history → r.asked ≡ at → NoWaste margin (history ++ r ∷ [])
waste-push margin at [] r waste late is = tt
waste-push margin at (x ∷ rest) r waste late is =
    waste_from margin x rest r waste (subst (λ (n : ℕ). IfSome (newest (x ∷ rest)) (λ m. m.exp ≤ n + margin)) (sym is) late)

pub none_newest : (history : List Renewal) → newest history ≡ None → length history ≡ 0
none_newest [] none = refl
none_newest (x ∷ []) none = cc none
none_newest (x ∷ y ∷ rest) none = absurd (some_more y rest (sym (newest-cons x y rest) ∙ none))
  where
    some_more : (y : Renewal) (rest : List Renewal) → newest (y ∷ rest) ≡ None → ⊥
    some_more y [] none = cc none
    some_more y (z ∷ rest) none = some_more z rest (sym (newest-cons y z rest) ∙ none)
