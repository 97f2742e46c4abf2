-- The journals of entries that a disk may hold.
use Rattle.std.specs.Prelude.{◌≤◌, ℕ, ◌+◌, List, Bool, ◌&&◌, length, map, nat_le}
use Rattle.std.specs.List.{AllByRecursion}
use Rattle.entry_texts.specs.Exact.{IsExactEntry}
use Rattle.entry_texts.specs.Written.{entry_text}
use Rattle.grant_journal.specs.JournalBytes.{journal_bytes, StandsFor}
use Rattle.links.specs.Licence.{Lawful}
use Rattle.links.specs.declared.entry.Entry.{Entry}
use Rattle.service_config.specs.declared.config.Config.{Config}

-- the texts of these entries
abbrev pub texts_of : List Entry → List (List ℕ)
texts_of entries = map entry_text entries

-- how many bytes the journal of these entries has
abbrev pub journal_size : List Entry → ℕ
journal_size entries = length (journal_bytes (texts_of entries))

-- a record may have the entry's text
abbrev pub IsShort : Entry → Type 0
IsShort e = length (entry_text e) ≤ 262144

-- a record may have the entry's text, and with it a journal of so many bytes has no more than a journal may have
abbrev pub fits_behind : ℕ → Entry → Bool
fits_behind len e = nat_le (length (entry_text e)) 262144 && nat_le (len + (5 + length (entry_text e))) 67108864

-- Each entry was licensed by the state of the entries before it, each is the one that its text says, and a journal has room for them.
pub record IsKept (config : Config) (entries : List Entry) : Type 0 where
  pub lawful : Lawful config entries
  pub exact : AllByRecursion IsExactEntry entries
  pub short : AllByRecursion IsShort entries
  pub within : journal_size entries ≤ 67108864

-- the file stands for the texts of these entries
abbrev pub StandsForEntries : List Entry → List ℕ → Type 0
StandsForEntries entries file = StandsFor (texts_of entries) file
