-- The service account that is impersonated.
use Rattle.std.proofs.Common.{◌≡◌, ℕ, ◌-◌, ◌≤◌, suc, List, [], ◌∷◌, length, slice_index_or, refl, ap, ◌∙◌, arith}
use Rattle.derived_facts.specs.Derived.{target_of}

-- It stands in the last place.
pub target_at : (accounts : List (List ℕ)) (d : List ℕ) → 1 ≤ length accounts → slice_index_or accounts (length accounts - 1) d ≡ target_of accounts
target_at [] d some = absurd (omega arith)
target_at (account ∷ []) d some = refl
target_at (account ∷ next ∷ more) d some =
    let behind : length (account ∷ next ∷ more) - 1 ≡ suc (length (next ∷ more) - 1) = omega arith in
    ap (λ (k : ℕ). slice_index_or (account ∷ next ∷ more) k d) behind ∙ target_at (next ∷ more) d (omega arith)
