-- The journal that a run over requests leaves, of whatever type they are.
use Rattle.std.specs.Prelude.{◌≡◌, ◌≤◌, ℕ, List, length, take, true}
use Rattle.wif_base.specs.Disk.{LeavesNow}
use Rattle.service_config.specs.declared.config.Config.{Config}
use Rattle.grant_journal.specs.JournalBytes.{StandsFor}
use Rattle.links.specs.declared.entry.Entry.{Entry}
use Rattle.service_journal.specs.Journals.{texts_of}
use Rattle.sts_core.specs.Machine.{Answer}
use Rattle.sts_core.specs.Runs.{entries_after}
use Rattle.sts_core.specs.State.{Standing, Stands, StandsForEither}
use Rattle.sts_core.specs.declared.stop.Stop.TheVariants.{Memory, Journal, Broken}
use Rattle.sts_serve.specs.declared.served.Served.{Served}
use Rattle.sts_serve.specs.declared.served.Served.TheVariants.{Done, ReadFault, WriteFault, ClockFault, Malformed, InputLimit, Stopped}

-- the journal behind the first of the requests, so many
abbrev pub entries_behind : {X : Type 0} → (List Entry → X → Answer) → List Entry → List X → ℕ → List Entry
entries_behind answer before xs count = entries_after answer before (take count xs)

-- an image stands for the journal behind some of the requests
abbrev pub StandsForFront : {X : Type 0} → (List Entry → X → Answer) → List Entry → List X → List ℕ → Type 0
StandsForFront answer before xs image = (count : ℕ) × (count ≤ length xs) × StandsFor (texts_of (entries_behind answer before xs count)) image

-- the service that a run left stands for the journal; where the disk failed, what a crash may leave stands for it or for the next
abbrev pub LeavesService : Served → Config → List Entry → List Entry → Standing → Type 0
LeavesService Done config journal next sts = Stands sts config journal
LeavesService ReadFault config journal next sts = Stands sts config journal
LeavesService WriteFault config journal next sts = Stands sts config journal
LeavesService ClockFault config journal next sts = Stands sts config journal
LeavesService (Malformed offset) config journal next sts = Stands sts config journal
LeavesService InputLimit config journal next sts = Stands sts config journal
LeavesService (Stopped Memory) config journal next sts = Stands sts config journal
LeavesService (Stopped Journal) config journal next sts =
    (sts.journal.broken ≡ true) × LeavesNow sts.journal.told (StandsForEither journal next)
LeavesService (Stopped Broken) config journal next sts = ⊥
