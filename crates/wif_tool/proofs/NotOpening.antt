-- Runs whose journal wasn't opened.
use Rattle.std.proofs.Common.{◌≡◌, ◌≢◌, ◌⊎◌, ℕ, List, inl, inr, ⊎_elim, subst, arith}
use Rattle.std.specs.Prelude.{Option, Some, IfSome}
use Rattle.grant_journal.specs.JournalBytes.{ReadsAs}
use Rattle.links.specs.declared.entry.Entry.{Entry}
use Rattle.service_config.specs.declared.config.Config.{Config}
use Rattle.service_journal.specs.Journals.{IsKept, StandsForEntries, texts_of}
use Rattle.service_journal.specs.Opening.{IsRefusedAt}
use Rattle.service_journal.specs.declared.opening.OpenFault.{OpenFault}
use Rattle.service_journal.specs.declared.opening.OpenFault.TheVariants.{Fault, Refused, Memory}
use Rattle.service_journal.proofs.Refusals.{refused_no_journal}
use Rattle.wif_base.specs.Disk.{Told}
use Rattle.wif_tool.specs.Lines.{refusal_line}
use Rattle.wif_tool.specs.Opened.{Holds, IsRefused, NoJournal, NotOpened, NotRead, fault_status}
use Rattle.wif_tool.proofs.Outcome.{is_due}

module _ (config : Config) (old new : Option Told) (taken taken' : Option (List ℕ)) (status : ℕ) where
  -- at which statuses
  pub unopened_status : (fault : OpenFault) → NotOpened fault config old new taken taken' status
      → (status ≡ 4) ⊎ ((status ≡ 5) ⊎ ((status ≡ 6) ⊎ (status ≡ 7)))
  unopened_status Fault not = inr (inl not.0)
  unopened_status Memory not = inr (inr (inr not.0))
  unopened_status (Refused at rule) (inl due, read) = inr (inr (inl due.0))
  unopened_status (Refused at rule) (inr (inl cut), read) = inl cut.0
  unopened_status (Refused at rule) (inr (inr none), read) = inr (inr (inr none.0))

  pub unopened_not : (fault : OpenFault) → NotOpened fault config old new taken taken' status → status ≢ 4 → status ≢ 5 → status ≢ 6 → status ≢ 7 → ⊥
  unopened_not fault not four five six seven = ⊎_elim four (λ more. ⊎_elim five (λ rest. ⊎_elim six seven rest) more) (unopened_status fault not)

  -- at 6 the file is refused
  pub refused_at_six : (fault : OpenFault) → NotOpened fault config old new taken taken' status → status ≡ 6 → IsRefused config old new taken taken'
  refused_at_six Fault not is = absurd (omega (arith, not.0, is))
  refused_at_six Memory not is = absurd (omega (arith, not.0, is))
  refused_at_six (Refused at rule) not is = record {
    at = at;
    rule = rule;
    line = is_due (refusal_line at rule) 6 taken taken' status not.0 (omega (arith, is)) (omega (arith, is));
    refused = not.1.0;
    synced = not.1.1;
  }

  -- a journal that is there is not refused
  pub opened_or : (fault : OpenFault) (held : Told) (entries : List Entry) → old ≡ Some held → IsKept config entries → StandsForEntries entries held.now.bytes
      → NotOpened fault config old new taken taken' status → status ≢ 5 → status ≡ 7
  opened_or Fault held entries tells kept stands not five = absurd (five not.0)
  opened_or Memory held entries tells kept stands not five = not.0
  opened_or (Refused at rule) held entries tells kept stands not five =
      absurd (refused_no_journal config held.now.bytes at rule
      (subst (λ (o : Option Told). IfSome o (λ told. IsRefusedAt config told.now.bytes at rule)) tells not.1.0) entries kept stands)

-- the same where no line tells of it
module _ (config : Config) (old new : Option Told) where
  pub not_read_or : (fault : OpenFault) (held : Told) (entries : List Entry) (status : ℕ) → old ≡ Some held → IsKept config entries → StandsForEntries entries held.now.bytes
      → NotRead fault config old new → status ≡ fault_status fault → status ≢ 5 → status ≡ 7
  not_read_or Fault held entries status tells kept stands not is five = absurd (five is)
  not_read_or Memory held entries status tells kept stands not is five = is
  not_read_or (Refused at rule) held entries status tells kept stands not is five =
      absurd (refused_no_journal config held.now.bytes at rule
      (subst (λ (o : Option Told). IfSome o (λ told. IsRefusedAt config told.now.bytes at rule)) tells not.0) entries kept stands)

pub fault_status_is : (fault : OpenFault) (status : ℕ) → status ≡ fault_status fault → (status ≡ 5) ⊎ ((status ≡ 6) ⊎ (status ≡ 7))
fault_status_is Fault status is = inl is
fault_status_is (Refused at rule) status is = inr (inl is)
fault_status_is Memory status is = inr (inr is)

pub not_zero_fault : (fault : OpenFault) (status : ℕ) → status ≡ fault_status fault → status ≢ 0
not_zero_fault Fault status is = λ zero. omega (arith, is, zero)
not_zero_fault (Refused at rule) status is = λ zero. omega (arith, is, zero)
not_zero_fault Memory status is = λ zero. omega (arith, is, zero)

-- a disk that holds no journal isn't opened
pub holds_none : (config : Config) (entries : List Entry) (old : Option Told) (held : Told) → old ≡ Some held → Holds config entries old → NoJournal config held.now.bytes → ⊥
holds_none config entries old held tells holds none =
    none entries holds.kept (subst (λ (o : Option Told). ReadsAs (texts_of entries) o) tells holds.reads)
