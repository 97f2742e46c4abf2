-- What callers see of a journal, whatever its disk is.
use Rattle.std.specs.Prelude.{ℕ, Bool, Option}
use Rattle.wif_base.specs.Disk.{Told}

-- What its disk tells, how often the disk has failed, which borrow it is, how many bytes the marker, the records and the gate have,
-- and whether the disk failed while a record was added.
pub record JournalView : Type 0 where
  pub told : Option Told
  pub faults : ℕ
  pub lender : ℕ
  pub len : ℕ
  pub broken : Bool
