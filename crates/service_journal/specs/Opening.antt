-- What the opening of a journal finds on a disk.
use Rattle.std.specs.Prelude.{◌≡◌, ◌⊎◌, ℕ, ◌+◌, List, length, Option, None, Result, Ok, Err, IfSome, ⊤}
use Rattle.entry_texts.specs.Exact.{IsExactEntry}
use Rattle.entry_texts.specs.Reading.{entry_of}
use Rattle.entry_texts.specs.Written.{entry_text}
use Rattle.grant_journal.specs.JournalBytes.{ReadsAs, Settled}
use Rattle.grant_journal.specs.Places.{HasMarker, IsBehind, IsRecordAt, PassesEnd, IsTooLongAt, PassesLimit}
use Rattle.grant_journal.specs.declared.rule.JournalRule.{JournalRule}
use Rattle.grant_journal.specs.declared.rule.JournalRule.TheVariants.{J1, J2, J3, J4, J5}
use Rattle.links.specs.Licence.{Licensed}
use Rattle.links.specs.State.{Content, content_of}
use Rattle.links.specs.declared.entry.Entry.{Entry}
use Rattle.service_config.specs.declared.config.Config.{Config}
use Rattle.wif_base.specs.Disk.{Told, told_synced}
use Rattle.service_journal.specs.Journals.{texts_of, journal_size, IsShort, IsKept}
use Rattle.service_journal.specs.declared.opening.JournalOpening.{JournalOpening}
use Rattle.service_journal.specs.declared.opening.OpenFault.{OpenFault}
use Rattle.service_journal.specs.declared.opening.OpenFault.TheVariants.{Fault, Refused, Memory}

-- the record there has the text of this entry
pub record IsEntryAt (file : List ℕ) (at : ℕ) (e : Entry) : Type 0 where
  pub stands : IsRecordAt file at (entry_text e)
  pub exact : IsExactEntry e
  pub short : IsShort e

-- the record there has a text that no entry has
pub record IsNoEntryAt (file : List ℕ) (at : ℕ) : Type 0 where
  pub text : List ℕ
  pub stands : IsRecordAt file at text
  pub none : entry_of text ≡ None

-- The record there breaks this rule and none before it, where the entries in front of it leave this content. J1 is of the file.
abbrev pub BreaksFirst : Content → List ℕ → ℕ → JournalRule → Type 0
BreaksFirst content file at J1 = ⊥
BreaksFirst content file at J2 = PassesEnd file at
BreaksFirst content file at J3 = IsTooLongAt file at ⊎ IsNoEntryAt file at
BreaksFirst content file at J4 = (e : Entry) × IsEntryAt file at e × ¬ (Licensed content e)
BreaksFirst content file at J5 = (e : Entry) × IsEntryAt file at e × Licensed content e × PassesLimit (at + (5 + length (entry_text e)))

-- Entries that a disk may hold stand in front of this place, and the record there is the first that breaks a rule, this one.
pub record IsBadBehind (config : Config) (file : List ℕ) (at : ℕ) (rule : JournalRule) : Type 0 where
  pub entries : List Entry
  pub kept : IsKept config entries
  pub front : IsBehind (texts_of entries) at file
  pub bad : BreaksFirst (content_of config entries) file at rule

-- The file is refused for the record at this place, by this rule; without the marker by J1 at its begin.
abbrev pub IsRefusedAt : Config → List ℕ → ℕ → JournalRule → Type 0
IsRefusedAt config file at J1 = (at ≡ 0) × ¬ (HasMarker file)
IsRefusedAt config file at J2 = IsBadBehind config file at J2
IsRefusedAt config file at J3 = IsBadBehind config file at J3
IsRefusedAt config file at J4 = IsBadBehind config file at J4
IsRefusedAt config file at J5 = IsBadBehind config file at J5

-- Entries that a disk may hold leave this content, and their journal has this length. Where the disk tells, it read as that
-- journal, and now nothing of it is pending.
pub record FindsJournal (config : Config) (old new : Option Told) (content : Content) (len : ℕ) : Type 0 where
  pub entries : List Entry
  pub kept : IsKept config entries
  pub content_is : content ≡ content_of config entries
  pub len_is : len ≡ journal_size entries
  pub reads : ReadsAs (texts_of entries) old
  pub settled : Settled (texts_of entries) len new

-- what each answer of an opening says of the disk; a fault says it by its cause, and want of memory says nothing
abbrev pub Opens : Config → Option Told → Option Told → Result JournalOpening OpenFault → Type 0
Opens config old new (Ok opening) = FindsJournal config old new opening.state.content opening.end.len
Opens config old new (Err Fault) = ⊤
Opens config old new (Err (Refused at rule)) = IfSome old (λ told. IsRefusedAt config told.now.bytes at rule)
Opens config old new (Err Memory) = ⊤

-- An opening begins with a sync, and changes no byte. Where the sync fails the disk is as before.
abbrev pub SyncsTo : Option Told → Option Told → Result JournalOpening OpenFault → Type 0
SyncsTo old new (Ok opening) = new ≡ told_synced old
SyncsTo old new (Err Fault) = (new ≡ old) ⊎ (new ≡ told_synced old)
SyncsTo old new (Err (Refused at rule)) = new ≡ told_synced old
SyncsTo old new (Err Memory) = new ≡ told_synced old
