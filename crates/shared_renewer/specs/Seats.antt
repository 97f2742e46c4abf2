-- A pass between two calls.
use Rattle.std.specs.Prelude.{◌≡◌, ℕ, Option}
use Rattle.renewer.specs.declared.renewal.Lease.{Lease}
use Rattle.shared_renewer.specs.Passes.{IsNewest}
use Rattle.shared_renewer.specs.Turns.{IsIdle, SeatState}

-- It has no turn, and keeps what it knows: the newest that it has seen, the client's margin and its own shares.
pub record IsSettled {L : Type 0} (m : SeatState L) (kept : Option Lease) (margin shares : ℕ) : Type 0 where
  pub idle : IsIdle m
  pub newest : IsNewest m.0.seen kept
  pub margin_is : m.0.facts.margin ≡ margin
  pub shares_is : m.0.share ≡ shares
