-- What the records of a file, applied in order, leave.
use Rattle.std.specs.Prelude.{◌≡◌, ℕ, List, None, Some, Result, Ok, Err, ⊤}
use Rattle.entry_texts.specs.Reading.{entry_of}
use Rattle.grant_journal.specs.Places.{IsBehind}
use Rattle.grant_journal.specs.declared.rule.JournalRule.{JournalRule}
use Rattle.grant_journal.specs.declared.rule.JournalRule.TheVariants.{J1, J2, J3, J4, J5}
use Rattle.links.specs.Licence.{Licensed}
use Rattle.links.specs.State.{Content, after, content_of}
use Rattle.links.specs.declared.entry.Entry.{Entry}
use Rattle.service_config.specs.declared.config.Config.{Config}
use Rattle.service_journal.specs.Journals.{texts_of, journal_size, IsKept, StandsForEntries}
use Rattle.service_journal.specs.Opening.{IsRefusedAt}
use Rattle.service_journal.specs.declared.opening.JournalOpening.{JournalOpening}
use Rattle.service_journal.specs.declared.opening.OpenFault.{OpenFault}
use Rattle.service_journal.specs.declared.opening.OpenFault.TheVariants as fault
use Rattle.service_journal.specs.declared.replay.ReplayFault.{ReplayFault}
use Rattle.service_journal.specs.declared.replay.ReplayFault.TheVariants.{Refused, Memory}

-- Entries that a disk may hold stand in front of this place, and leave this content.
pub record Leads (config : Config) (file : List ℕ) (content : Content) (at : ℕ) : Type 0 where
  pub entries : List Entry
  pub kept : IsKept config entries
  pub front : IsBehind (texts_of entries) at file
  pub content_is : content ≡ content_of config entries

-- The file stands for entries that a disk may hold, which leave this content and end at this length.
pub record HoldsJournal (config : Config) (file : List ℕ) (content : Content) (len : ℕ) : Type 0 where
  pub entries : List Entry
  pub kept : IsKept config entries
  pub stands : StandsForEntries entries file
  pub content_is : content ≡ content_of config entries
  pub len_is : len ≡ journal_size entries

-- what an answer says of a file
abbrev pub Replays : Config → List ℕ → Result JournalOpening ReplayFault → Type 0
Replays config file (Ok opening) = HoldsJournal config file opening.state.content opening.end.len
Replays config file (Err (Refused at rule)) = IsRefusedAt config file at rule
Replays config file (Err Memory) = ⊤

-- the text breaks this rule, where entries in front of it leave this content
abbrev pub TextBreaks : Content → List ℕ → JournalRule → Type 0
TextBreaks content text J1 = ⊥
TextBreaks content text J2 = ⊥
TextBreaks content text J3 = entry_of text ≡ None
TextBreaks content text J4 = (e : Entry) × (entry_of text ≡ Some e) × ¬ (Licensed content e)
TextBreaks content text J5 = ⊥

-- the entry of the text was licensed and applied, or the text at this place breaks a rule
abbrev pub AppliesText : Content → Content → List ℕ → ℕ → Result (Unit {0}) ReplayFault → Type 0
AppliesText old new text at (Ok x) = (e : Entry) × (entry_of text ≡ Some e) × Licensed old e × (new ≡ after old e)
AppliesText old new text at (Err (Refused place rule)) = (place ≡ at) × TextBreaks old text rule
AppliesText old new text at (Err Memory) = ⊤

-- what an opening answers behind the reading of its file
abbrev pub opened_as : Result JournalOpening ReplayFault → Result JournalOpening OpenFault
opened_as (Ok opening) = Ok opening
opened_as (Err (Refused at rule)) = Err (fault.Refused at rule)
opened_as (Err Memory) = Err fault.Memory
