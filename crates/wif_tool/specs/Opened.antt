-- The journal that a run finds on its disk, and what it leaves there.
use Rattle.std.specs.Prelude.{◌≡◌, ◌⊎◌, ℕ, ◌+◌, List, Option, IfSome}
use Rattle.std.specs.Io.KnownBytes.{Appends}
use Rattle.grant_journal.specs.JournalBytes.{ReadsAs, StandsFor}
use Rattle.grant_journal.specs.declared.rule.JournalRule.{JournalRule}
use Rattle.links.specs.declared.entry.Entry.{Entry}
use Rattle.service_config.specs.declared.config.Config.{Config}
use Rattle.service_journal.specs.Journals.{IsKept, StandsForEntries, texts_of}
use Rattle.service_journal.specs.Opening.{IsRefusedAt}
use Rattle.service_journal.specs.declared.opening.OpenFault.{OpenFault}
use Rattle.service_journal.specs.declared.opening.OpenFault.TheVariants.{Fault, Refused, Memory}
use Rattle.sts_core.specs.State.{StandsForEither}
use Rattle.sts_core.specs.declared.stop.Stop.TheVariants as stops
use Rattle.sts_serve.specs.declared.served.Served.{Served}
use Rattle.sts_serve.specs.declared.served.Served.TheVariants.{Done, ReadFault, WriteFault, ClockFault, Malformed, InputLimit, Stopped}
use Rattle.wif_base.specs.Disk.{LeavesNow, Told, told_synced}
use Rattle.wif_tool.specs.Lines.{LineDue, refusal_line}

-- ---- before the run

-- Under this configuration a disk may hold the journal of these entries, and this one does where it tells its bytes.
pub record Holds (config : Config) (entries : List Entry) (told : Option Told) : Type 0 where
  pub kept : IsKept config entries
  pub reads : ReadsAs (texts_of entries) told

-- the bytes stand for no journal that a disk may hold under this configuration
abbrev pub NoJournal : Config → List ℕ → Type 0
NoJournal config bytes = (entries : List Entry) → IsKept config entries → StandsForEntries entries bytes → ⊥

-- What each fault of the opening says of the disk, which a sync alone may have changed.
abbrev pub NotRead : OpenFault → Config → Option Told → Option Told → Type 0
NotRead Fault config old new = (new ≡ old) ⊎ (new ≡ told_synced old)
NotRead (Refused at rule) config old new = IfSome old (λ told. IsRefusedAt config told.now.bytes at rule) × (new ≡ told_synced old)
NotRead Memory config old new = new ≡ told_synced old

-- How a run over a script ends that didn't open the journal: the disk failed, the file is refused and a line tells the place and the rule, or
-- memory ran out.
abbrev pub NotOpened : OpenFault → Config → Option Told → Option Told → Option (List ℕ) → Option (List ℕ) → ℕ → Type 0
NotOpened Fault config old new taken taken' status = (status ≡ 5) × (taken' ≡ taken) × NotRead Fault config old new
NotOpened (Refused at rule) config old new taken taken' status = LineDue (refusal_line at rule) 6 taken taken' status × NotRead (Refused at rule) config old new
NotOpened Memory config old new taken taken' status = (status ≡ 7) × (taken' ≡ taken) × NotRead Memory config old new

-- the status of each fault of the opening where no line tells of it
abbrev pub fault_status : OpenFault → ℕ
fault_status Fault = 5
fault_status (Refused at rule) = 6
fault_status Memory = 7

-- A line tells the place and the rule by which the file is refused, and a sync alone has changed the disk.
pub record IsRefused (config : Config) (old new : Option Told) (taken taken' : Option (List ℕ)) : Type 0 where
  pub at : ℕ
  pub rule : JournalRule
  pub line : Appends taken taken' (refusal_line at rule)
  pub refused : IfSome old (λ told. IsRefusedAt config told.now.bytes at rule)
  pub synced : new ≡ told_synced old

-- ---- behind it

-- What a crash may leave at the end of a run, of the journals behind its first requests. It has the requests that were answered whole. At a
-- fault in writing and for want of memory it has those that were recorded, and where the disk failed maybe one more.
abbrev pub LeavesDisk : Served → (ℕ → List Entry) → ℕ → ℕ → Option Told → Type 0
LeavesDisk Done behind answered recorded told = LeavesNow told (StandsFor (texts_of (behind answered)))
LeavesDisk ReadFault behind answered recorded told = LeavesNow told (StandsFor (texts_of (behind answered)))
LeavesDisk WriteFault behind answered recorded told = LeavesNow told (StandsFor (texts_of (behind recorded)))
LeavesDisk ClockFault behind answered recorded told = LeavesNow told (StandsFor (texts_of (behind answered)))
LeavesDisk (Malformed offset) behind answered recorded told = LeavesNow told (StandsFor (texts_of (behind answered)))
LeavesDisk InputLimit behind answered recorded told = LeavesNow told (StandsFor (texts_of (behind answered)))
LeavesDisk (Stopped stops.Memory) behind answered recorded told = LeavesNow told (StandsFor (texts_of (behind recorded)))
LeavesDisk (Stopped stops.Journal) behind answered recorded told = LeavesNow told (StandsForEither (behind recorded) (behind (recorded + 1)))
LeavesDisk (Stopped stops.Broken) behind answered recorded told = ⊥
