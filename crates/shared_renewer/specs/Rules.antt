-- The rule that holds between any two steps of any number of passes: of the word, the client in the slot, and what each pass knows.
use Rattle.std.specs.Prelude.{◌≡◌, ◌≢◌, ◌⊎◌, ℕ, ◌+◌, ◌*◌, ◌/◌, ◌<◌, ◌≤◌, ◌^◌, List, [], ◌∷◌, length, Option, Some, None, false, if◌then◌else◌}
use mathlib.Core.Option.{some}
use mathlib.Core.Option as maybe
use lib.ListN.{get_elem?}
use Rattle.atomic_table.specs.Table.{State}
use Rattle.renewer.specs.Flights.{Flown}
use Rattle.renewer.specs.Histories.{NoWaste}
use Rattle.shared_renewer.specs.Counts.{AreWithin}
use Rattle.shared_renewer.specs.Views.{Renewals, Begins, EachBegins}
use Rattle.shared_renewer.specs.declared.view.ClientFacts.{ClientFacts}
use Rattle.shared_renewer.specs.declared.view.LinkCounts.{LinkCounts}
use Rattle.shared_renewer.specs.declared.view.View.{View}

-- Whose turn it is: no one's, with the client in the slot; or a pass's, by its place, which found these counts.
pub data Stage (Client : Type 0) : Type 0 where
  rests : Client → Stage Client
  taken : ℕ → LinkCounts → Stage Client

-- the word is odd while a pass has the turn
abbrev pub oddness : {Client : Type 0} → Stage Client → ℕ
oddness (rests client) = 0
oddness (taken place counts) = 1

-- ---- sums over the passes

-- the number of a view that isn't spent
abbrev pub weigh : (View → ℕ) → View → ℕ
weigh f v = if v.spent then 0 else f v

-- the sum over the views that aren't spent
abbrev pub total : (View → ℕ) → List View → ℕ
total f [] = 0
total f (v ∷ views) = weigh f v + total f views

-- ---- at one stage

module _ {L : Type 0} (counts : Flown L → LinkCounts) (Has : Flown L → ClientFacts → Type 0) (facts : ClientFacts) (history : Renewals) where
  -- the counts of the link, or those that the pass with the turn found
  abbrev pub known_counts : Stage (Flown L) → LinkCounts
  known_counts (rests client) = counts client
  known_counts (taken place found) = found

  -- the client is in the slot, with these renewals and facts; or the slot is empty, and the pass with the turn isn't spent
  abbrev pub IsHome : Stage (Flown L) → List (maybe.Option (Flown L)) → List View → Type 0
  IsHome (rests client) homes views = (homes ≡ some client ∷ []) × (client.history ≡ history) × Has client facts
  IsHome (taken place found) homes views = (homes ≡ maybe.none ∷ []) × ((v : View) × (get_elem? views place ≡ some v) × (v.spent ≡ false))

  -- a pass has the turn, over these renewals and at these counts, exactly where the turn is its; another found no more than it left
  abbrev pub IsInTurn : Stage (Flown L) → ℕ → Option Renewals → LinkCounts → LinkCounts → Type 0
  IsInTurn (rests client) k turn found left = (turn ≡ None) × AreWithin found left
  IsInTurn (taken place at_turn) k turn found left =
      ((k ≡ place) × (turn ≡ Some history) × (found ≡ at_turn)) ⊎ ((k ≢ place) × (turn ≡ None) × AreWithin found left)

  -- A pass has seen a beginning of the renewals, the word counted no more when it looked, its counts are no greater than the link's, it has
  -- a share, and it knows the facts.
  pub record Fits (stage : Stage (Flown L)) (k : ℕ) (v : View) : Type 0 where
    pub seen : Begins v.seen history
    pub olds : EachBegins v.olds v.seen
    pub last : v.last / 2 ≤ length history
    pub turn : IsInTurn stage k v.turn v.found v.left
    pub left : AreWithin v.left (known_counts stage)
    pub share : 1 ≤ v.share
    pub facts_is : v.facts ≡ facts

  -- each pass that isn't spent fits
  abbrev pub AllFit : Stage (Flown L) → List View → Type 0
  AllFit stage views = (k : ℕ) (v : View) → get_elem? views k ≡ some v → v.spent ≡ false → Fits stage k v

-- ---- between any two steps

-- There is one history, which wastes nothing and has at most 10,000 renewals. The word is twice their number, and one more while a pass has
-- the turn. All shares add up to what there was, and what all passes were told of failures is no more than the link's counts.
pub record RenewalRule {L : Type 0} (counts : Flown L → LinkCounts) (Has : Flown L → ClientFacts → Type 0) (facts : ClientFacts) (shares : ℕ)
    (s : State (Flown L) View) : Type 0 where
  pub history : Renewals
  pub stage : Stage (Flown L)
  pub word : s.words ≡ (2 * length history + oddness stage) ∷ []
  pub home : IsHome counts Has facts history stage s.homes s.views
  pub views : AllFit counts Has facts history stage s.views
  pub waste : NoWaste facts.margin history
  pub most : length history ≤ 10000
  pub small : shares < 2 ^ 32
  pub shared : total (λ v. v.share) s.views ≡ shares
  pub faults : total (λ v. v.lost.faults) s.views ≤ (known_counts counts Has facts history stage).faults
  pub failed : total (λ v. v.lost.failed) s.views ≤ (known_counts counts Has facts history stage).failed
