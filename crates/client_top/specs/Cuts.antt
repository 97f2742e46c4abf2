-- Bytes cut at their first line feed.
use Rattle.std.specs.Prelude.{◌≡◌, ◌≢◌, ◌⊎◌, ℕ, ◌+◌, List, [], ◌∷◌, ◌++◌, take, drop}
use Rattle.std.specs.List.{AllByRecursion}

-- no byte is a line feed
abbrev pub HasNoFeed : List ℕ → Type 0
HasNoFeed bytes = AllByRecursion (λ byte. byte ≢ 10) bytes

-- the first line feed stands there
abbrev pub IsFeedAt : List ℕ → ℕ → Type 0
IsFeedAt bytes size = HasNoFeed (take size bytes) × (bytes ≡ take size bytes ++ (10 ∷ drop (size + 1) bytes))

-- A line stands at the front, and this behind its line feed; or the line is all, and nothing is behind it.
pub record IsFrontLine (bytes line more : List ℕ) : Type 0 where
  pub clear : HasNoFeed line
  pub whole : (bytes ≡ line ++ (10 ∷ more)) ⊎ ((bytes ≡ line) × (more ≡ []))
