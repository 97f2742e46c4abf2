-- What the workers' leases brought, by the renewals that were seen behind them.
use Rattle.std.specs.Prelude.{◌≡◌, ◌⊎◌, ℕ, ◌+◌, ◌-◌, ◌^◌, ◌<◌, ◌≤◌, List, [], ◌∷◌, slice_get, flat_map, Some, IsSome, Result, Ok, Err, Bool, true, false, if◌then◌else◌, alloc_error, ⊤}
use Rattle.std.specs.declared.alloc.AllocError.{AllocError}
use Rattle.std.specs.List.{AllZip}
use Rattle.renewer.specs.Histories.{CoversAt}
use Rattle.renewer.specs.declared.fault.LeaseFault.{LeaseFault}
use Rattle.renewer.specs.declared.fault.LeaseFault.TheVariants as fault
use Rattle.renewer.specs.declared.renewal.Lease.{Lease as Granted}
use Rattle.renewer.specs.declared.renewal.Renewal.{Renewal}
use Rattle.shared_renewer.specs.Views.{Renewals}
use Rattle.shared_renewer.specs.declared.view.View.{View}
use Rattle.client_top.specs.declared.outcome.Outcome.{Outcome}
use Rattle.client_top.specs.declared.outcome.Outcome.TheVariants.{Lease, Link, Refused, BadReply, ShortLived, Exhausted}

-- ---- one outcome

-- The lease is of the renewal at that place. It ends after the moment, and covers it or was asked at it.
pub record IsLeaseOf (margin at : ℕ) (history : Renewals) (index exp : ℕ) : Type 0 where
  pub renewal : Renewal
  pub there : slice_get history index ≡ Some renewal
  pub end : renewal.exp ≡ exp
  pub ends : at < exp
  pub good : CoversAt renewal margin at ⊎ (renewal.asked ≡ at)

-- a renewal that was asked at the moment was over at once
pub record IsShortAt (at : ℕ) (history : Renewals) : Type 0 where
  pub index : ℕ
  pub renewal : Renewal
  pub there : slice_get history index ≡ Some renewal
  pub asked : renewal.asked ≡ at
  pub over : renewal.exp ≤ at

-- there are 10,000 renewals, and the last of these doesn't cover the moment
pub record IsFullAt (margin at : ℕ) (history : Renewals) : Type 0 where
  pub renewal : Renewal
  pub there : slice_get history 9_999 ≡ Some renewal
  pub uncovered : renewal.exp ≤ at + margin

-- what the renewals say of each outcome
abbrev pub IsOutcome : ℕ → Renewals → ℕ → Outcome → Type 0
IsOutcome margin history at (Lease index exp) = IsLeaseOf margin at history index exp
IsOutcome margin history at Link = ⊤
IsOutcome margin history at Refused = ⊤
IsOutcome margin history at BadReply = ⊤
IsOutcome margin history at ShortLived = IsShortAt at history
IsOutcome margin history at Exhausted = IsFullAt margin at history

-- ---- the outcomes of workers

-- one outcome for each moment of a worker, in order
abbrev pub AreOutcomesOf : ℕ → Renewals → List ℕ → List Outcome → Type 0
AreOutcomesOf margin history moments outcomes = AllZip (IsOutcome margin history) moments outcomes

-- the same of each worker
abbrev pub AreOutcomes : ℕ → Renewals → List (List ℕ) → List (List Outcome) → Type 0
AreOutcomes margin history moments lists = AllZip (AreOutcomesOf margin history) moments lists

-- what becomes of a call's answer: an outcome, or want of memory
abbrev pub outcome_of : Result Granted LeaseFault → Result Outcome AllocError
outcome_of (Ok lease) = Ok (Lease lease.index lease.exp)
outcome_of (Err fault.LinkFault) = Ok Link
outcome_of (Err (fault.Refused reply)) = Ok Refused
outcome_of (Err (fault.BadReply reply)) = Ok BadReply
outcome_of (Err (fault.ShortLived exp)) = Ok ShortLived
outcome_of (Err (fault.Exhausted exp)) = Ok Exhausted
outcome_of (Err fault.Memory) = Err alloc_error

-- ---- failures

-- a fault of the link
abbrev pub is_link : Outcome → Bool
is_link (Lease index exp) = false
is_link Link = true
is_link Refused = false
is_link BadReply = false
is_link ShortLived = false
is_link Exhausted = false

-- a reply that is refused or bad
abbrev pub is_reply : Outcome → Bool
is_reply (Lease index exp) = false
is_reply Link = false
is_reply Refused = true
is_reply BadReply = true
is_reply ShortLived = false
is_reply Exhausted = false

-- how many of the outcomes are so
abbrev pub how_many : (Outcome → Bool) → List Outcome → ℕ
how_many is [] = 0
how_many is (outcome ∷ outcomes) = (if is outcome then 1 else 0) + how_many is outcomes

-- The pass was told of a fault of the link for each such outcome, as far as the link's count can rise; and where the calls are told, of a
-- refused or bad reply for each outcome of that kind.
pub record IsLostIn (outcomes : List Outcome) (old new : View) : Type 0 where
  pub faults : (new.lost.faults ≡ old.lost.faults + how_many is_link outcomes) ⊎ (2 ^ 64 - 1 ≤ new.left.faults)
  pub failed : IsSome new.facts.made → new.lost.failed ≡ old.lost.failed + how_many is_reply outcomes

-- the same for the outcomes of all workers
abbrev pub IsLostBy : List (List Outcome) → View → View → Type 0
IsLostBy lists old new = IsLostIn (flat_map (λ outcomes. outcomes) lists) old new
