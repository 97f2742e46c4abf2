-- The input of a run: the moments at which its workers want leases.
use Rattle.std.specs.Prelude.{◌≡◌, ◌<◌, ◌≤◌, ◌⊎◌, ℕ, suc, zero, List, [], ◌∷◌, ◌++◌, length, map, filter, Option, None, Some, nat_eq}
use Rattle.std.specs.Fmt.{decimal}
use Rattle.std.specs.List.{AllByRecursion}
use Rattle.client_top.specs.declared.asks.Ask.{Ask}

-- the last moment: a little past the year 8307
abbrev pub last_moment : ℕ
last_moment = 200_000_000_000

-- how many lines an input has at most
abbrev pub most_asks : ℕ
most_asks = 100_000

-- `WORKER MOMENT`
abbrev pub ask_text : Ask → List ℕ
ask_text ask = decimal ask.worker ++ (32 ∷ decimal ask.moment)

-- the lines, each with its line feed
abbrev pub asks_text : List Ask → List ℕ
asks_text [] = []
asks_text (ask ∷ asks) = ask_text ask ++ (10 ∷ asks_text asks)

-- it is one of these workers, and the moment is one
pub record IsAsk (workers : ℕ) (ask : Ask) : Type 0 where
  pub worker : ask.worker < workers
  pub moment : ask.moment ≤ last_moment

-- The bytes are these lines; the last may lack its line feed.
pub record AreAsks (workers : ℕ) (bytes : List ℕ) (asks : List Ask) : Type 0 where
  pub whole : (bytes ≡ asks_text asks) ⊎ (bytes ++ 10 ∷ [] ≡ asks_text asks)
  pub each : AllByRecursion (IsAsk workers) asks
  pub few : length asks ≤ most_asks

-- no lines are these bytes
abbrev pub NoAsks : ℕ → List ℕ → Type 0
NoAsks workers bytes = (asks : List Ask) → AreAsks workers bytes asks → ⊥

-- ---- by worker

-- the moments of one worker, in order
abbrev pub moments_of : ℕ → List Ask → List ℕ
moments_of worker asks = map (λ ask. ask.moment) (filter (λ ask. nat_eq ask.worker worker) asks)

-- those of each of the workers
abbrev pub moments_by : ℕ → List Ask → List (List ℕ)
moments_by zero asks = []
moments_by (suc worker) asks = moments_by worker asks ++ moments_of worker asks ∷ []

-- ---- one line

-- what a line asks for, if it is of the form
abbrev pub IsAskOf : ℕ → List ℕ → Option Ask → Type 0
IsAskOf workers line None = (ask : Ask) → IsAsk workers ask → line ≡ ask_text ask → ⊥
IsAskOf workers line (Some ask) = IsAsk workers ask × (line ≡ ask_text ask)
