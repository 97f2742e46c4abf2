-- What a step on the word tells the pass that makes it.
use Rattle.std.specs.Prelude.{◌≡◌, ◌≢◌, ◌⊎◌, ℕ, ◌*◌, ◌/◌, ◌%◌, ◌<◌, ◌≤◌, ◌^◌, [], ◌∷◌, ◌++◌, length, Some, None, false}
use Rattle.atomic_table.specs.Table.{Me, Step}
use Rattle.renewer.specs.Flights.{Flown}
use Rattle.renewer.specs.Histories.{NoWaste}
use Rattle.renewer.specs.declared.renewal.Renewal.{Renewal}
use Rattle.shared_renewer.specs.Counts.{AreWithin}
use Rattle.shared_renewer.specs.Views.{Renewals, Begins, EachBegins, after_turn, looked, took}
use Rattle.shared_renewer.specs.declared.turns.Ending.{Ending}
use Rattle.shared_renewer.specs.declared.view.ClientFacts.{ClientFacts}
use Rattle.shared_renewer.specs.declared.view.LinkCounts.{LinkCounts}
use Rattle.shared_renewer.specs.declared.view.View.{View}

-- what a seat knows, and the client while it is out with it
abbrev pub SeatState : Type 0 → Type 0
SeatState L = Me (Flown L) View

-- between two calls a seat has no turn and no client, and isn't spent
abbrev pub IsIdle : {L : Type 0} → SeatState L → Type 0
IsIdle m = (m.0.turn ≡ None) × (m.0.spent ≡ false) × (m.1 ≡ [])

-- only looked at the word since
abbrev pub OnlyLooked : {L : Type 0} → SeatState L → SeatState L → Type 0
OnlyLooked m n = (last before steps : ℕ) × (n ≡ (record m.0 { last = last; before = before; steps = steps }, m.1)) × (m.0.steps ≤ steps)

-- the same renewals, or one more
abbrev pub GoesOnByOne : Renewals → Renewals → Type 0
GoesOnByOne old new = (new ≡ old) ⊎ ((renewal : Renewal) × (new ≡ old ++ renewal ∷ []))

module _ {L : Type 0} where
  -- The word was looked at. It counts no fewer renewals than when the seat looked before.
  pub record Looked (word : ℕ) (m n : SeatState L) : Type 0 where
    pub now : n ≡ (looked word m.0, m.1)
    pub most : word ≤ 20001
    pub later : m.0.last / 2 ≤ word / 2
    pub olds : EachBegins m.0.olds m.0.seen
    pub share : m.0.share < 2 ^ 32

  -- a look tells what the word was
  abbrev pub looks : Step (Flown L) → SeatState L → ℕ → SeatState L → Type 0
  looks step m word n = Looked word m n

  -- no turn was gained: the word was odd, or at a second look it counted more renewals
  abbrev pub IsMissed : ℕ → SeatState L → SeatState L → Type 0
  IsMissed word m n =
      ((word % 2 ≡ 1) × (n ≡ (looked word m.0, m.1)))
      ⊎ ((first : ℕ) × ((word % 2 ≡ 1) ⊎ (first / 2 < word / 2)) × (n ≡ (looked word (looked first m.0), m.1)))

module _ {L : Type 0} (counts : Flown L → LinkCounts) (Has : Flown L → ClientFacts → Type 0) where
  -- The turn was gained, and with it the client, which has the whole history.
  pub record Took (word : ℕ) (m n : SeatState L) : Type 0 where
    pub client : Flown L
    pub now : n ≡ (took client.history (counts client) word m.0, (0, client) ∷ m.1)
    pub has : Has client m.0.facts
    pub word_is : word ≡ 2 * length client.history
    pub seen : Begins m.0.seen client.history
    pub found : AreWithin m.0.found m.0.left
    pub left : AreWithin m.0.left (counts client)
    pub waste : NoWaste m.0.facts.margin client.history
    pub most : length client.history ≤ 10000

  -- the turn was gained where the word was the expected one
  abbrev pub tries : Step (Flown L) → SeatState L → ℕ → SeatState L → Type 0
  tries step m word n = (word ≡ step.first → Took word m n) × (word ≢ step.first → Looked word m n)

  -- The seat has the turn since these renewals, and the client, which may have one more by now.
  pub record IsReady (m : SeatState L) (history : Renewals) (client : Flown L) : Type 0 where
    pub turn : m.0.turn ≡ Some history
    pub unspent : m.0.spent ≡ false
    pub carried : m.1 ≡ (0, client) ∷ []
    pub has : Has client m.0.facts
    pub longer : GoesOnByOne history client.history
    pub found : AreWithin m.0.found (counts client)
    pub waste : NoWaste m.0.facts.margin client.history
    pub most : length client.history ≤ 10000

  -- the turn and the client are given back
  abbrev pub gives : Ending → Step (Flown L) → SeatState L → ℕ → SeatState L → Type 0
  gives ending step m word n = (history : Renewals) (client : Flown L) → IsReady m history client → n ≡ (after_turn counts ending client m.0, [])
