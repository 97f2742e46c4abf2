-- The values of a parameter, found one by one.
use Rattle.std.proofs.Common.{◌≡◌, ℕ, List, [], ◌∷◌, refl}
use Rattle.std.specs.Prelude.{◌&&◌, not, is_some, Option, None, Some}
use Rattle.exchange_form.specs.Forms.{has_none, has_two, only}

-- the value that was found, and those to come
abbrev pub with_found : Option (List ℕ) → List (List ℕ) → List (List ℕ)
with_found None values = values
with_found (Some value) values = value ∷ values

-- two values are there where there is one, and not exactly one
pub has_two_is : (values : List (List ℕ)) → has_two values ≡ not (has_none values) && not (is_some (only values))
has_two_is [] = refl
has_two_is (value ∷ []) = refl
has_two_is (value ∷ other ∷ more) = refl
