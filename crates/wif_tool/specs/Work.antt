-- The words of `gen`.
use Rattle.std.specs.Prelude.{◌≡◌, ◌≤◌, ℕ, List, [], ◌∷◌, codes, if◌then◌else◌, Option, None, Some}
use Rattle.std.specs.Fmt.{decimal}
use Rattle.std.specs.Str.{bytes_eq}

-- the word of N in `gen N`
abbrev pub work_word : List (List ℕ) → Option (List ℕ)
work_word [] = None
work_word (name ∷ []) = None
work_word (name ∷ count ∷ []) = if bytes_eq name (codes "gen") then Some count else None
work_word (name ∷ count ∷ more ∷ rest) = None

-- it is this number from 1 to 500 in decimal
pub record IsWork (word : Option (List ℕ)) (count : ℕ) : Type 0 where
  pub spelled : word ≡ Some (decimal count)
  pub range : (1 ≤ count) × (count ≤ 500)

-- the words ask for the work of this number
abbrev pub AsksForWork : List (List ℕ) → ℕ → Type 0
AsksForWork words count = IsWork (work_word words) count

-- what the word says, if it is such a number
abbrev pub SaysWork : Option (List ℕ) → Option ℕ → Type 0
SaysWork word None = (count : ℕ) → IsWork word count → ⊥
SaysWork word (Some count) = IsWork word count
