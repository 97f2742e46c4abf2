-- The tokens that a client was given, the oldest first.
use Rattle.std.specs.Prelude.{◌≡◌, ◌<◌, ◌≤◌, ◌⊎◌, ℕ, ◌+◌, ◌-◌, List, [], ◌∷◌, ◌++◌, length, slice_get, Option, IfSome, ⊤}
use Rattle.renewer.specs.declared.renewal.Renewal.{Renewal}

-- the renewal ends later than the margin behind the moment
abbrev pub CoversAt : Renewal → ℕ → ℕ → Type 0
CoversAt renewal margin at = at + margin < renewal.exp

abbrev pub newest : List Renewal → Option Renewal
newest history = slice_get history (length history - 1)

-- the newest renewal, if there is one, doesn't cover the moment
abbrev pub IsUncovered : ℕ → ℕ → List Renewal → Type 0
IsUncovered margin at history = IfSome (newest history) (λ renewal. renewal.exp ≤ at + margin)

-- none of the later renewals was asked while the one before it covered the moment
abbrev pub NoWasteFrom : ℕ → Renewal → List Renewal → Type 0
NoWasteFrom margin renewal [] = ⊤
NoWasteFrom margin renewal (next ∷ rest) = (renewal.exp ≤ next.asked + margin) × NoWasteFrom margin next rest

-- no renewal was asked while the one before it covered the moment
abbrev pub NoWaste : ℕ → List Renewal → Type 0
NoWaste margin [] = ⊤
NoWaste margin (renewal ∷ rest) = NoWasteFrom margin renewal rest

-- nothing was recorded, or one renewal, asked at this moment, which the newest before it didn't cover
abbrev pub RecordsAtMost : ℕ → ℕ → List Renewal → List Renewal → Type 0
RecordsAtMost margin at old new =
    (new ≡ old) ⊎ ((renewal : Renewal) × (new ≡ old ++ renewal ∷ []) × (renewal.asked ≡ at) × IsUncovered margin at old)
