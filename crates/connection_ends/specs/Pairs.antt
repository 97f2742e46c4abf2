-- Both ends of a connection, as far as they tell, and lists of them.
use Rattle.std.specs.Prelude.{◌≡◌, ℕ, List, ◌++◌, Option, None, Some, ⊤}

-- What the source has left and what the sink has taken, where they are told, and how often each has failed.
pub record Pair : Type 0 where
  pub left : Option (List ℕ)
  pub read_faults : ℕ
  pub taken : Option (List ℕ)
  pub write_faults : ℕ

-- these were the first, where it is told which ones wait
abbrev pub Takes : {X : Type 0} → Option (List X) → Option (List X) → List X → Type 0
Takes None new xs = ⊤
Takes (Some old) None xs = ⊥
Takes (Some old) (Some new) xs = old ≡ xs ++ new

-- these were put behind the others, where it is told which ones were
abbrev pub Puts : {X : Type 0} → Option (List X) → Option (List X) → List X → Type 0
Puts None new xs = ⊤
Puts (Some old) None xs = ⊥
Puts (Some old) (Some new) xs = new ≡ old ++ xs
