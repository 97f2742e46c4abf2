-- The word at the front of some bytes, up to a separator.
use Rattle.std.specs.Prelude.{◌≡◌, ◌≢◌, ◌≤◌, ℕ, List, [], ◌∷◌, ◌++◌, length, Option, None, Some}
use Rattle.std.specs.List.{AllByRecursion}
use Rattle.std.specs.Fmt.{decimal}
use Rattle.sts_serve.specs.Frames.{IsWord, IsVisible}
use Rattle.sts_serve.specs.declared.cut.Cut.{Cut}
use Rattle.sts_serve.specs.declared.cut.Cut.TheVariants.{Word, Part, Never}

-- a cut off the front is right: a word up to the separator, the begin of one, or neither
abbrev pub IsCut : ℕ → ℕ → List ℕ → Cut → Type 0
-- a word, the separator, and the rest
IsCut separator longest bytes (Word word rest) = IsWord longest word.now × (bytes ≡ word.now ++ (separator ∷ rest.now))
-- no separator yet, and room for one
IsCut separator longest bytes Part = (length bytes ≤ longest) × AllByRecursion IsVisible bytes
-- no word, however the bytes go on
IsCut separator longest bytes Never =
    (bytes ≢ []) × ((word rest more : List ℕ) → IsWord longest word → bytes ++ more ≡ word ++ (separator ∷ rest) → ⊥)

-- the number that the text is, if it is one of at most that
abbrev pub IsNumberOf : ℕ → List ℕ → Option ℕ → Type 0
IsNumberOf most text None = (n : ℕ) → n ≤ most → text ≡ decimal n → ⊥
IsNumberOf most text (Some n) = (n ≤ most) × (text ≡ decimal n)
