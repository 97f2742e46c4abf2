-- What the reading of a file does to its disk, and what was read.
use Rattle.std.specs.Prelude.{◌≡◌, ◌⊎◌, ℕ, List, length, take, Option, Result, Ok, Err}
use Rattle.wif_base.specs.Disk.{Told, told_synced}
use Rattle.grant_journal.specs.declared.journal_file.JournalFile.{JournalFile}
use Rattle.grant_journal.specs.declared.reading.ReadFault.{ReadFault}
use Rattle.grant_journal.specs.declared.reading.ReadFault.TheVariants.{Fault, Memory}

-- What was read of a file with these bytes: its length, and its bytes up to the end of the longest record that begins within the limit.
pub record IsReadOf (file : List ℕ) (read : JournalFile) : Type 0 where
  pub front : read.bytes.items ≡ take 67371012 file
  pub size : read.length ≡ length file

-- A sync comes first. Where it fails the disk is as before.
abbrev pub ReadsTo : Option Told → Option Told → Result JournalFile ReadFault → Type 0
ReadsTo old new (Ok file) = new ≡ told_synced old
ReadsTo old new (Err Fault) = (new ≡ old) ⊎ (new ≡ told_synced old)
ReadsTo old new (Err Memory) = new ≡ told_synced old
