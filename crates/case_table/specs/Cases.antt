-- Rows of a key and a value.
use Rattle.std.specs.Prelude.{◌≡◌, ◌≢◌, ◌<◌, ◌==◌, ℕ, List, [], ◌∷◌, Option, None, Some, length, get_or, if◌then◌else◌}
use Rattle.case_table.specs.declared.table.Doubled.{Doubled}

-- the value of the first row with the key
abbrev pub found : ℕ → List (ℕ × ℕ) → Option ℕ
found key [] = None
found key (row ∷ rows) = if row.0 == key then Some row.1 else found key rows

-- the key of the row at a place
abbrev pub key_at : List (ℕ × ℕ) → ℕ → ℕ
key_at rows at = (get_or rows at (0, 0)).0

-- no row before this one has its key
abbrev pub IsNew : List (ℕ × ℕ) → ℕ → Type 0
IsNew rows at = (before : ℕ) → before < at → key_at rows before ≢ key_at rows at

-- no two rows have one key
abbrev pub KeysApart : List (ℕ × ℕ) → Type 0
KeysApart rows = (at : ℕ) → at < length rows → IsNew rows at

-- The second row has the key of the first, and no two rows have one key of which the second comes before, or the first where it is the same second.
pub record IsDoubled (rows : List (ℕ × ℕ)) (doubled : Doubled) : Type 0 where
  pub order : doubled.first < doubled.second
  pub within : doubled.second < length rows
  pub same : key_at rows doubled.first ≡ key_at rows doubled.second
  pub second_comes_first : (at : ℕ) → at < doubled.second → IsNew rows at
  pub first_comes_first : (at : ℕ) → at < doubled.first → key_at rows at ≢ key_at rows doubled.second
