-- The line at the front of some bytes.
use Rattle.std.specs.Prelude.{◌≡◌, ◌≤◌, ℕ, ◌+◌, List, ◌∷◌, ◌++◌, length, take, drop}
use Rattle.cel_lines.specs.Lines.{longest, HasNoFeed, IsTooLong}
use Rattle.cel_lines.specs.declared.front.Front.{Front}
use Rattle.cel_lines.specs.declared.front.Front.TheVariants.{Line, Part, TooLong}

-- the first line feed stands there
abbrev pub IsFeedAt : List ℕ → ℕ → Type 0
IsFeedAt bytes size = HasNoFeed (take size bytes) × (bytes ≡ take size bytes ++ (10 ∷ drop (size + 1) bytes))

-- what stands at the front: a line of this size, a part of one, or more bytes than a line has
abbrev pub IsAtFront : List ℕ → Front → Type 0
IsAtFront bytes (Line size) = IsFeedAt bytes size × (size ≤ longest)
IsAtFront bytes Part = HasNoFeed bytes × (length bytes ≤ longest)
IsAtFront bytes TooLong = IsTooLong bytes
