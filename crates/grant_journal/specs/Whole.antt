-- The journal on a disk, as one fact with one proof, which a struct above can keep.
use Rattle.std.specs.Prelude.{◌≡◌, ◌≢◌, ◌≤◌, ℕ, ◌+◌, ◌-◌, List, length, take, slice_index}
use Rattle.wif_base.specs.Disk.{Held}
use Rattle.grant_journal.specs.JournalBytes.{before_gate}

-- The disk reads as a file that stands for these texts, with its closed gate right before len, and nothing is pending.
pub record Whole (texts : List (List ℕ)) (len : ℕ) (held : Held) : Type 0 where
  pub front : take (len - 1) held.bytes ≡ before_gate texts
  pub inside : len ≤ length held.bytes
  pub len_is : len ≡ length (before_gate texts) + 1
  pub closed : slice_index held.bytes (len - 1) ≢ 1
  pub pending : length held.pending ≡ 0
  pub synced : held.synced ≡ length held.bytes
