-- How a run of `init` ends.
use Rattle.std.specs.Prelude.{◌≡◌, ◌≢◌, ◌⊎◌, ℕ, [], Option, IfSome}
use Rattle.grant_journal.specs.JournalBytes.{Settled}
use Rattle.wif_base.specs.Causes.{Rose}
use Rattle.wif_base.specs.Disk.{Told}

-- The disk had nothing and holds the empty journal, or it failed, or it has something and keeps it.
abbrev pub InitOutcome : Option Told → Option Told → ℕ → ℕ → ℕ → Type 0
InitOutcome old new before now status =
    ((status ≡ 0) × IfSome old (λ t. t.now.bytes ≡ []) × Settled [] 9 new)
    ⊎ (((status ≡ 5) × Rose before now)
    ⊎ ((status ≡ 6) × IfSome old (λ t. t.now.bytes ≢ []) × (new ≡ old)))
