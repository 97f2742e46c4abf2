-- Sums over the views that aren't spent.
use Rattle.std.proofs.Common.{◌≡◌, ℕ, zero, suc, ◌+◌, ◌≤◌, List, [], ◌∷◌, ◌++◌, set, false, refl, sym, ap, arith}
use mathlib.Core.Option.{some, some-injective, some-ne-none}
use lib.ListN.{get_elem?}
use Rattle.shared_renewer.specs.Rules.{weigh, total}
use Rattle.shared_renewer.specs.declared.view.View.{View}

module _ (f : View → ℕ) where
  pub total-set : (views : List View) (k : ℕ) (v w : View) → get_elem? views k ≡ some v → total f (set views k w) + weigh f v ≡ total f views + weigh f w
  total-set [] k v w at = absurd (some-ne-none v (sym at))
  total-set (x ∷ views) zero v w at = let same = ap (weigh f) (some-injective x v at) in omega arith
  total-set (x ∷ views) (suc k) v w at = let rest = total-set views k v w at in omega arith

  pub total-push : (views : List View) (w : View) → total f (views ++ w ∷ []) ≡ total f views + weigh f w
  total-push [] w = omega arith
  total-push (x ∷ views) w = let rest = total-push views w in omega arith

  -- one view weighs no more than all
  pub total_at : (views : List View) (k : ℕ) (v : View) → get_elem? views k ≡ some v → weigh f v ≤ total f views
  total_at [] k v at = absurd (some-ne-none v (sym at))
  total_at (x ∷ views) zero v at = let same = ap (weigh f) (some-injective x v at) in omega arith
  total_at (x ∷ views) (suc k) v at = let rest = total_at views k v at in omega arith

  pub weigh_live : (v : View) → v.spent ≡ false → weigh f v ≡ f v
  weigh_live v live = rw live refl

  -- a view that weighs as much as before
  pub total_same : (views : List View) (k : ℕ) (v w : View) → get_elem? views k ≡ some v → weigh f w ≡ weigh f v → total f (set views k w) ≡ total f views
  total_same views k v w at same = let rest = total-set views k v w at in omega arith
