-- Bytes as lines.
use Rattle.std.specs.Prelude.{◌≡◌, ◌≢◌, ◌<◌, ◌≤◌, ◌⊎◌, ℕ, ◌+◌, List, [], ◌∷◌, ◌++◌, length, take}
use Rattle.std.specs.List.{flat_map, AllByRecursion}

-- how many bytes a line has at most, its line feed not counted
abbrev pub longest : ℕ
longest = 65536

-- no byte is a line feed
abbrev pub HasNoFeed : List ℕ → Type 0
HasNoFeed bytes = AllByRecursion (λ byte. byte ≢ 10) bytes

-- a line without its line feed
abbrev pub IsLine : List ℕ → Type 0
IsLine line = HasNoFeed line × (length line ≤ longest)

-- more bytes than a line has, before any line feed
abbrev pub IsTooLong : List ℕ → Type 0
IsTooLong bytes = (longest < length bytes) × HasNoFeed (take (longest + 1) bytes)

-- the lines, each with its line feed
abbrev pub lines_text : List (List ℕ) → List ℕ
lines_text lines = flat_map (λ line. line ++ (10 ∷ [])) lines

-- The bytes begin with these lines, each with its line feed, and the rest follows.
pub record LinesBegin (bytes : List ℕ) (lines : List (List ℕ)) (rest : List ℕ) : Type 0 where
  pub whole : bytes ≡ lines_text lines ++ rest
  pub each : AllByRecursion IsLine lines

-- The rest does not begin with a line: none ends in it, or the first has too many bytes.
abbrev pub IsRest : List ℕ → Type 0
IsRest rest = HasNoFeed rest ⊎ IsTooLong rest

-- the line that stands behind the last line feed, where bytes are there
abbrev pub last_line : List ℕ → List (List ℕ)
last_line [] = []
last_line (byte ∷ bytes) = (byte ∷ bytes) ∷ []

-- The bytes are these lines; the last may lack its line feed.
pub record AreLines (bytes : List ℕ) (lines : List (List ℕ)) : Type 0 where
  pub whole : List (List ℕ)
  pub last : List ℕ
  pub begins : LinesBegin bytes whole last
  pub ends : IsLine last
  pub all : lines ≡ whole ++ last_line last
