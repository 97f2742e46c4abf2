-- A turn in which the newest renewal is copied, and what it left.
use Rattle.std.specs.Prelude.{◌≡◌, ◌≤◌, ℕ, ◌+◌, [], Option, IfSome, option_map, Result, Ok, Err, IfOk, IfErr}
use Rattle.renewer.specs.Flights.{Flown}
use Rattle.renewer.specs.declared.renewal.Lease.{Lease}
use Rattle.shared_renewer.specs.Passes.{IsBusy, IsNewest, SawTurn}
use Rattle.shared_renewer.specs.Turns.{SeatState}
use Rattle.shared_renewer.specs.Views.{Renewals, after_turn}
use Rattle.shared_renewer.specs.declared.fault.TryFault.{TryFault}
use Rattle.shared_renewer.specs.declared.fault.TryFault.TheVariants.{Busy, Stale, Memory}
use Rattle.shared_renewer.specs.declared.looking.Copies.{Copies}
use Rattle.shared_renewer.specs.declared.turns.Ending.{Ending}
use Rattle.shared_renewer.specs.declared.turns.Ending.TheVariants.{Seen, Unseen}
use Rattle.shared_renewer.specs.declared.view.LinkCounts.{LinkCounts}
use Rattle.shared_renewer.specs.declared.view.View.{View}

-- both are of the newest of these renewals
abbrev pub AreOfNewest : Renewals → Copies → Type 0
AreOfNewest history copies = IsNewest history copies.kept × IsNewest history copies.given

-- the history is seen only with its copies
abbrev pub ending_by : {T E : Type 0} → Result T E → Ending
ending_by (Ok copies) = Seen
ending_by (Err error) = Unseen

-- The turn was given back with the client as it was, and with copies of its newest renewal or for want of memory.
pub record Looks {L : Type 0} (counts : Flown L → LinkCounts) (client : Flown L) (m n : SeatState L) (result : Result Copies TryFault) : Type 0 where
  pub now : n ≡ (after_turn counts (ending_by result) client m.0, [])
  pub copies : IfOk result (AreOfNewest client.history)
  pub fault : IfErr result (λ fault. fault ≡ Memory)

-- the history was seen whole, with these copies
abbrev pub IsSeenWhole : View → View → Copies → Type 0
IsSeenWhole old new copies = SawTurn 0 old new × AreOfNewest new.seen copies

-- what is known behind each fault of a turn
abbrev pub TurnLeaves : View → View → TryFault → Type 0
TurnLeaves old new (Busy word) = (new.seen ≡ old.seen) × IsBusy word old new
TurnLeaves old new (Stale end) = ⊥
TurnLeaves old new Memory = new.seen ≡ old.seen

-- the newest, if there is one, doesn't cover the moment
abbrev pub IsStale : Option Lease → ℕ → ℕ → TryFault → Type 0
IsStale kept margin at (Busy word) = ⊥
IsStale kept margin at (Stale end) = (end ≡ option_map (λ lease. lease.exp) kept) × IfSome kept (λ lease. lease.exp ≤ at + margin)
IsStale kept margin at Memory = ⊥
