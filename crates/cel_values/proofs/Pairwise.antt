-- Two lists are equal by their items.
use Rattle.std.proofs.Common.{◌≡◌, ◌≢◌, ◌+◌, ◌<◌, ℕ, suc, Bool, false, true, ◌&&◌, List, [], ◌∷◌, length, map, drop, get_or, refl, ap, add-one, drop-cons}
use Rattle.cel_values.specs.Equality.{all_equal}

pub other_length : {A : Type 0} (f : A → A → Bool) (xs ys : List A) → length xs ≢ length ys → all_equal (map f xs) ys ≡ false
other_length f [] [] h = absurd (h refl)
other_length f [] (y ∷ ys) h = refl
other_length f (x ∷ xs) [] h = refl
other_length f (x ∷ xs) (y ∷ ys) h =
    elim (f x y) as (λ b. (b && all_equal (map f xs) ys) ≡ false) [ true ↦ other_length f xs ys (λ e. h (ap suc e)) | false ↦ refl ]

-- what is left of both is equal, where the next items are and what is left behind them
pub equal_from : {A : Type 0} (f : A → A → Bool) (xs ys : List A) (i : ℕ) (x y : A) → i < length xs → i < length ys → all_equal (map f (drop i xs)) (drop i ys) ≡ (f (get_or xs i x) (get_or ys i y) && all_equal (map f (drop (i + 1) xs)) (drop (i + 1) ys))
equal_from f xs ys i x y h k = rw (add-one, drop-cons xs i x, drop-cons ys i y)
