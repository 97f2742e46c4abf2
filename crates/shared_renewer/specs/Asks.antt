-- A turn in which the client is asked for a lease, and what it brought.
use Rattle.std.specs.Prelude.{◌≡◌, ◌<◌, ◌≤◌, ◌⊎◌, ℕ, List, [], ◌∷◌, ◌++◌, Bool, true, false, Option, IsSome, Result, Ok, Err, IfErr}
use Rattle.std.specs.declared.alloc.AllocError.{AllocError}
use Rattle.wif_base.specs.Causes.{Rose}
use Rattle.client_link.specs.declared.target.LinkCall.{LinkCall}
use Rattle.client_link.specs.declared.target.Target.{Target}
use Rattle.renewer.specs.Flights.{Flown}
use Rattle.renewer.specs.Histories.{RecordsAtMost}
use Rattle.renewer.specs.Leases.{IsBad, IsExhausted, IsLeased, IsRefusal}
use Rattle.renewer.specs.declared.fault.LeaseFault.{LeaseFault}
use Rattle.renewer.specs.declared.fault.LeaseFault.TheVariants.{LinkFault, Refused, BadReply, ShortLived, Exhausted, Memory}
use Rattle.renewer.specs.declared.renewal.Lease.{Lease}
use Rattle.renewer.specs.declared.renewal.Renewal.{Renewal}
use Rattle.shared_renewer.specs.Counts.{AreWithin, counts_of, HasFacts}
use Rattle.shared_renewer.specs.Passes.{IsLeasedInTurn, IsNewest, LeaseLeaves, Loses}
use Rattle.shared_renewer.specs.Turns.{IsReady, SeatState}
use Rattle.shared_renewer.specs.Views.{after_turn}
use Rattle.shared_renewer.specs.declared.asking.Outcome.{Outcome}
use Rattle.shared_renewer.specs.declared.asking.Outcome.TheVariants.{Seen, Unseen}
use Rattle.shared_renewer.specs.declared.turns.Ending.{Ending}
use Rattle.shared_renewer.specs.declared.turns.Ending.TheVariants as ending
use Rattle.shared_renewer.specs.declared.view.LinkCounts.{LinkCounts}
use Rattle.shared_renewer.specs.declared.view.View.{View}

-- ---- what is seen behind an answer

-- behind these faults the pass sees nothing more
abbrev pub hides_history : LeaseFault → Bool
hides_history LinkFault = true
hides_history (Refused reply) = true
hides_history (BadReply reply) = true
hides_history (ShortLived exp) = false
hides_history (Exhausted exp) = false
hides_history Memory = true

-- how a turn ends behind a fault that hides the history
abbrev pub ending_behind : LeaseFault → Ending
ending_behind LinkFault = ending.LinkFailed
ending_behind (Refused reply) = ending.ReplyFailed
ending_behind (BadReply reply) = ending.ReplyFailed
ending_behind (ShortLived exp) = ending.Unseen
ending_behind (Exhausted exp) = ending.Unseen
ending_behind Memory = ending.Unseen

-- how a turn ends by what it brought
abbrev pub ending_of : Outcome → Ending
ending_of (Seen answer kept) = ending.Seen
ending_of (Unseen fault) = ending_behind fault

-- an answer behind which the history is seen comes with a copy of the newest renewal; without one it becomes want of memory
abbrev pub Settles : Result Lease LeaseFault → Result (Option Lease) AllocError → Outcome → Type 0
Settles answer copy (Seen given kept) = (given ≡ answer) × (copy ≡ Ok kept) × IfErr answer (λ fault. hides_history fault ≡ false)
Settles answer copy (Unseen fault) = ((answer ≡ Err fault) × (hides_history fault ≡ true)) ⊎ (fault ≡ Memory)

-- ---- what the client did

module _ {L : Type 0} (faults : L → ℕ) (calls : L → Option (List LinkCall)) (lender : L → ℕ) where
  -- the counts of the client's link
  abbrev counts : Flown L → LinkCounts
  counts = counts_of faults calls

  -- a reply that is refused or bad was counted, where the calls are told
  abbrev pub IsCounted : Flown L → Flown L → Type 0
  IsCounted old new = IsSome (calls old.link) → (counts old).failed < (counts new).failed

  -- what becomes of a client behind each answer to a lease
  abbrev pub Answers : ℕ → Flown L → Flown L → Result Lease LeaseFault → Type 0
  Answers at old new (Ok lease) = IsLeased new.margin at new.history lease × RecordsAtMost old.margin at old.history new.history
  Answers at old new (Err LinkFault) = (new.history ≡ old.history) × Rose (counts old).faults (counts new).faults
  Answers at old new (Err (Refused reply)) = (new.history ≡ old.history) × ((target : Target) × IsRefusal target at reply) × IsCounted old new
  Answers at old new (Err (BadReply reply)) =
      (new.history ≡ old.history) × ((target : Target) × IsBad new.config target at reply) × IsCounted old new
  Answers at old new (Err (ShortLived exp)) =
      (renewal : Renewal) × (new.history ≡ old.history ++ renewal ∷ []) × (renewal.asked ≡ at) × (renewal.exp ≡ exp) × (exp ≤ at)
  Answers at old new (Err (Exhausted exp)) = (new.history ≡ old.history) × IsExhausted new.margin at new.history exp
  Answers at old new (Err Memory) = new.history ≡ old.history

  -- The seat still has the client, which was asked for a lease.
  pub record IsAskedFor (at : ℕ) (m n : SeatState L) (old new : Flown L) (answer : Result Lease LeaseFault) : Type 0 where
    pub view : n.0 ≡ m.0
    pub ready : IsReady counts (HasFacts calls lender) n old.history new
    pub rises : AreWithin (counts old) (counts new)
    pub answers : Answers at old new answer

  -- a turn's outcome by what the client did
  abbrev pub Brings : ℕ → Flown L → Flown L → Outcome → Type 0
  Brings at old new (Seen answer kept) = Answers at old new answer × IfErr answer (λ fault. hides_history fault ≡ false) × IsNewest new.history kept
  Brings at old new (Unseen fault) = (Answers at old new (Err fault) × (hides_history fault ≡ true)) ⊎ (fault ≡ Memory)

  -- The client was asked for a lease, and given back.
  pub record Serves (at : ℕ) (m n : SeatState L) (old new : Flown L) (outcome : Outcome) : Type 0 where
    pub now : n ≡ (after_turn counts (ending_of outcome) new m.0, [])
    pub has : HasFacts calls lender new m.0.facts
    pub rises : AreWithin (counts old) (counts new)
    pub brings : Brings at old new outcome

-- ---- what the pass knows then

-- what an answer says of the view before and behind
abbrev pub LeaseShows : ℕ → View → View → Result Lease LeaseFault → Type 0
LeaseShows at old new (Ok lease) = IsLeasedInTurn at old new lease
LeaseShows at old new (Err fault) = LeaseLeaves at old new fault

-- what a turn brought, told by the view before and behind
abbrev pub IsServed : ℕ → View → View → Outcome → Type 0
IsServed at old new (Seen answer kept) = LeaseShows at old new answer × Loses old new answer × IsNewest new.seen kept
IsServed at old new (Unseen fault) = LeaseShows at old new (Err fault) × Loses old new (Err fault) × (new.seen ≡ old.seen)
