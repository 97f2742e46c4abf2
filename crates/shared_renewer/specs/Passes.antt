-- What contracts see of a pass and of the client that passes share, and what the calls of a pass tell it.
use Rattle.std.specs.Prelude.{◌≡◌, ◌⊎◌, ℕ, ◌+◌, ◌-◌, ◌*◌, ◌/◌, ◌%◌, ◌<◌, ◌≤◌, ◌^◌, [], length, slice_get, Option, Some, None, IfSome, IsSome, option_map, Result, Ok, Err}
use Rattle.atomic_table.specs.Seated.{TableId}
use Rattle.client_link.specs.declared.target.Target.{Target}
use Rattle.renewer.specs.Flights.{Flown}
use Rattle.renewer.specs.Histories.{IsUncovered, newest}
use Rattle.renewer.specs.Leases.{IsBad, IsExhausted, IsLeased, IsRefusal}
use Rattle.renewer.specs.declared.fault.LeaseFault.{LeaseFault}
use Rattle.renewer.specs.declared.fault.LeaseFault.TheVariants as fault
use Rattle.renewer.specs.declared.renewal.Lease.{Lease}
use Rattle.renewer.specs.declared.renewal.Renewal.{Renewal}
use Rattle.shared_renewer.specs.Counts.{AreWithin}
use Rattle.shared_renewer.specs.Views.{Renewals, Begins}
use Rattle.shared_renewer.specs.declared.fault.TryFault.{TryFault}
use Rattle.shared_renewer.specs.declared.fault.TryFault.TheVariants as try
use Rattle.shared_renewer.specs.declared.view.View.{View}

-- What contracts see of a pass: the table that it is of, and what it knows.
pub record Known : Type 0 where
  pub table : TableId
  pub view : View

-- What contracts see of a shared client: its table, how many shares there are, and the client as it was when it was shared.
pub record Handed (L : Type 0) : Type 0 where
  pub table : TableId
  pub shares : ℕ
  pub client : Flown L

-- ---- the newest renewal

-- The lease is the newest of the renewals, by its place.
pub record IsNewestOf (seen : Renewals) (lease : Lease) : Type 0 where
  pub place : lease.index + 1 ≡ length seen
  pub renewal : Renewal
  pub there : slice_get seen lease.index ≡ Some renewal
  pub token : lease.token ≡ renewal.token
  pub exp : lease.exp ≡ renewal.exp

-- the newest of the renewals, and none where there is none
abbrev pub IsNewest : Renewals → Option Lease → Type 0
IsNewest seen None = seen ≡ []
IsNewest seen (Some lease) = IsNewestOf seen lease

-- The lease is the newest that the pass has seen, and covers the moment.
pub record IsKept (at : ℕ) (v : View) (lease : Lease) : Type 0 where
  pub newest : IsNewestOf v.seen lease
  pub covers : at + v.facts.margin < lease.exp

-- ---- what a call leaves

-- The pass's share, its client, and what its last join brought together are as before.
pub record Keeps (old new : View) : Type 0 where
  pub share : new.share ≡ old.share
  pub facts : new.facts ≡ old.facts
  pub olds : new.olds ≡ old.olds

-- None of its counts fell.
pub record NeverFalls (old new : View) : Type 0 where
  pub found : AreWithin old.found new.found
  pub left : AreWithin old.left new.left
  pub lost : AreWithin old.lost new.lost

-- The pass had one turn more and saw the whole history: what the word counted as the turn began, and of this call so many renewals more.
pub record SawTurn (more : ℕ) (old new : View) : Type 0 where
  pub seen : Begins old.seen new.seen
  pub turns : new.turns ≡ old.turns + 1
  pub steps : old.steps < new.steps
  pub word : new.last + 2 * more ≡ 2 * length new.seen

-- ---- without waiting

-- Another pass had the turn: the word is odd, or counts more renewals than the word that this call had looked at before.
pub record IsBusy (word : ℕ) (old new : View) : Type 0 where
  pub turns : new.turns ≡ old.turns
  pub steps : old.steps < new.steps
  pub last : new.last ≡ word
  pub cause : (word % 2 ≡ 1) ⊎ ((old.steps + 2 ≤ new.steps) × (new.before / 2 < word / 2))

-- the end of the newest renewal, if there is one
abbrev pub newest_end : Renewals → Option ℕ
newest_end seen = option_map (λ renewal. renewal.exp) (newest seen)

-- what is known behind each fault
abbrev pub TryLeaves : ℕ → View → View → TryFault → Type 0
TryLeaves at old new (try.Busy word) = (new.seen ≡ old.seen) × IsBusy word old new
TryLeaves at old new (try.Stale end) = SawTurn 0 old new × (newest_end new.seen ≡ end) × IsUncovered new.facts.margin at new.seen
TryLeaves at old new try.Memory = new.seen ≡ old.seen

-- ---- with waiting

-- the newest renewal, if there is one, was asked at the moment
abbrev pub IsAskedNow : ℕ → Renewals → Type 0
IsAskedNow at seen = IfSome (newest seen) (λ renewal. renewal.asked ≡ at)

-- The lease is the newest that the pass has seen, and was there as its turn began, or was recorded in it.
abbrev pub IsLeasedInTurn : ℕ → View → View → Lease → Type 0
IsLeasedInTurn at old new lease =
    IsLeased new.facts.margin at new.seen lease × (SawTurn 0 old new ⊎ (SawTurn 1 old new × IsAskedNow at new.seen))

-- the newest renewal is over at the moment, with this end
abbrev pub IsOver : ℕ → ℕ → Renewals → Type 0
IsOver at exp seen = (newest_end seen ≡ Some exp) × (exp ≤ at)

-- what is known behind each fault
abbrev pub LeaseLeaves : ℕ → View → View → LeaseFault → Type 0
LeaseLeaves at old new fault.LinkFault = new.seen ≡ old.seen
LeaseLeaves at old new (fault.Refused reply) = (new.seen ≡ old.seen) × ((target : Target) × IsRefusal target at reply)
LeaseLeaves at old new (fault.BadReply reply) = (new.seen ≡ old.seen) × ((target : Target) × IsBad new.facts.config target at reply)
LeaseLeaves at old new (fault.ShortLived exp) = SawTurn 1 old new × IsAskedNow at new.seen × IsOver at exp new.seen
LeaseLeaves at old new (fault.Exhausted exp) = SawTurn 0 old new × IsExhausted new.facts.margin at new.seen exp
LeaseLeaves at old new fault.Memory = new.seen ≡ old.seen

-- A fault of the link raised its count by one, as far as the link's count can rise.
pub record IsToldFault (old new : View) : Type 0 where
  pub faults : (new.lost.faults ≡ old.lost.faults + 1) ⊎ ((new.lost.faults ≡ old.lost.faults) × (2 ^ 64 - 1 ≤ new.left.faults))
  pub failed : new.lost.failed ≡ old.lost.failed

-- A reply that is refused or bad raised its count by one, where the calls are told.
pub record IsToldReply (old new : View) : Type 0 where
  pub faults : new.lost.faults ≡ old.lost.faults
  pub failed : IsSome new.facts.made → new.lost.failed ≡ old.lost.failed + 1
  pub most : new.lost.failed ≤ old.lost.failed + 1

-- what the pass was told of failures
abbrev pub Loses : View → View → Result Lease LeaseFault → Type 0
Loses old new (Ok lease) = new.lost ≡ old.lost
Loses old new (Err fault.LinkFault) = IsToldFault old new
Loses old new (Err (fault.Refused reply)) = IsToldReply old new
Loses old new (Err (fault.BadReply reply)) = IsToldReply old new
Loses old new (Err (fault.ShortLived exp)) = new.lost ≡ old.lost
Loses old new (Err (fault.Exhausted exp)) = new.lost ≡ old.lost
Loses old new (Err fault.Memory) = new.lost ≡ old.lost
