-- A source that was read to its end, or past a limit.
use Rattle.std.specs.Prelude.{◌<◌, ◌⊎◌, ℕ, List, length, Option}
use Rattle.std.specs.Io.KnownBytes.{Consumes, IsAtEnd}

-- The bytes were taken, and they are all that there were or more than so many.
pub record IsReadWhole (most : ℕ) (left left' : Option (List ℕ)) (bytes : List ℕ) : Type 0 where
  pub source : Consumes left left' bytes
  pub whole : IsAtEnd left' ⊎ (most < length bytes)
