-- How the records of a file lead from content to content, and what was read of it when they end.
use Rattle.std.proofs.Common.{◌≡◌, ◌≤◌, inl, inr, ℕ, ◌+◌, ◌-◌, List, [], ◌∷◌, ◌++◌, length, take, refl, sym, ◌∙◌, ap, subst, arith, min, rules, length-append}
use Rattle.std.specs.Prelude.{Option, None, Some, IfSome, Result, Ok, Err, replicate}
use Rattle.std.proofs.lemmas.Bool.{cases_lt}
use Rattle.std.proofs.lemmas.List.{append-nil, length-replicate, take_at, take_all}
use Rattle.entry_texts.proofs.Says.{text_only, text_exact}
use Rattle.entry_texts.specs.Reading.{entry_of}
use Rattle.entry_texts.specs.Written.{entry_text}
use Rattle.grant_journal.proofs.Finding.{behind_closed, behind_more, behind_size}
use Rattle.grant_journal.proofs.Stands.{sync_settles}
use Rattle.grant_journal.specs.JournalBytes.{Settled}
use Rattle.grant_journal.specs.Places.{HasMarker, IsBehind, IsClosedAt, IsRecordAt, BreaksAt, PassesLimit}
use Rattle.grant_journal.specs.Reading.{IsReadOf}
use Rattle.grant_journal.specs.declared.journal_file.JournalFile.{JournalFile}
use Rattle.grant_journal.specs.declared.rule.JournalRule.{JournalRule}
use Rattle.grant_journal.specs.declared.rule.JournalRule.TheVariants.{J1, J2, J3, J4, J5}
use Rattle.links.proofs.Replays.{state_after-append}
use Rattle.links.specs.Licence.{Licensed}
use Rattle.links.specs.State.{Content, start_of, after, content_of}
use Rattle.links.specs.declared.entry.Entry.{Entry}
use Rattle.service_config.specs.declared.config.Config.{Config}
use Rattle.wif_base.specs.Disk.{Told, told_synced}
use Rattle.service_journal.specs.Journals.{texts_of}
use Rattle.service_journal.specs.Opening.{IsEntryAt, IsRefusedAt, Opens}
use Rattle.service_journal.specs.Replays.{Leads, HoldsJournal, Replays, TextBreaks, AppliesText, opened_as}
use Rattle.service_journal.specs.declared.opening.JournalOpening.{JournalOpening}
use Rattle.service_journal.specs.declared.opening.OpenFault.TheVariants.{Fault}
use Rattle.service_journal.specs.declared.replay.ReplayFault.{ReplayFault}
use Rattle.service_journal.specs.declared.replay.ReplayFault.TheVariants.{Refused, Memory}
use Rattle.service_journal.proofs.KeptJournals.{kept_none, kept_more}
use Rattle.service_journal.proofs.Texts.{texts-push}

-- ---- from record to record

pub leads_none : (config : Config) (file : List ℕ) (content : Content) → content ≡ start_of config → HasMarker file → Leads config file content 8
leads_none config file content is has = record { entries = []; kept = kept_none config; front = record { place = refl; front = has }; content_is = is }

-- a text that says an entry has the exact entry of which it is the text
entry_there : (file text : List ℕ) (at : ℕ) (e : Entry) → entry_of text ≡ Some e → IsRecordAt file at text → length text ≤ 262144 → IsEntryAt file at e
entry_there file text at e says stands short =
    let same = text_only text e says in
    record {
      stands = subst (λ (l : List ℕ). IsRecordAt file at l) same stands;
      exact = text_exact text e says;
      short = subst (λ (l : List ℕ). length l ≤ 262144) same short;
    }

module _ (config : Config) (file : List ℕ) (content : Content) (at : ℕ) (leads : Leads config file content at) where
  pub closes : IsClosedAt file at → HoldsJournal config file content (at + 1)
  closes shut = record {
    entries = leads.entries;
    kept = leads.kept;
    stands = behind_closed file (texts_of leads.entries) at leads.front shut;
    content_is = leads.content_is;
    len_is = sym (behind_size file (texts_of leads.entries) at leads.front);
  }

  pub breaks : (rule : JournalRule) → BreaksAt file at rule → IsRefusedAt config file at rule
  breaks J1 bad = absurd bad
  breaks J2 bad = record { entries = leads.entries; kept = leads.kept; front = leads.front; bad = bad }
  breaks J3 bad = record { entries = leads.entries; kept = leads.kept; front = leads.front; bad = inl bad }
  breaks J4 bad = absurd bad
  breaks J5 bad = absurd bad

  -- a record of this text stands there
  module _ (text : List ℕ) (stands : IsRecordAt file at text) (short : length text ≤ 262144) where
    pub text_breaks : (rule : JournalRule) → TextBreaks content text rule → IsRefusedAt config file at rule
    text_breaks J1 bad = absurd bad
    text_breaks J2 bad = absurd bad
    text_breaks J3 bad = record {
      entries = leads.entries;
      kept = leads.kept;
      front = leads.front;
      bad = inr (record { text = text; stands = stands; none = bad });
    }
    text_breaks J4 (e, says, forbids) = record {
      entries = leads.entries;
      kept = leads.kept;
      front = leads.front;
      bad = (e, entry_there file text at e says stands short, λ licensed. forbids (subst (λ (c : Content). Licensed c e) (sym leads.content_is) licensed));
    }
    text_breaks J5 bad = absurd bad

    pub text_refused : (new : Content) (fault : ReplayFault) → AppliesText content new text at (Err fault) → Replays config file (Err fault)
    text_refused new (Refused place rule) (here, bad) = subst (λ (n : ℕ). IsRefusedAt config file n rule) (sym here) (text_breaks rule bad)
    text_refused new Memory applies = tt

    -- and the text says an entry that is licensed
    module _ (e : Entry) (says : entry_of text ≡ Some e) (licensed : Licensed content e) where
      same : length text ≡ length (entry_text e)
      same = ap length (text_only text e says)

      free : Licensed (content_of config leads.entries) e
      free = subst (λ (c : Content). Licensed c e) leads.content_is licensed

      pub passes : PassesLimit (at + (5 + length text)) → IsRefusedAt config file at J5
      passes past = record {
        entries = leads.entries;
        kept = leads.kept;
        front = leads.front;
        bad = (e, entry_there file text at e says stands short, free, subst (λ (n : ℕ). PassesLimit (at + (5 + n))) same past);
      }

      pub leads_on : (new : Content) (next : ℕ) → new ≡ after content e → next ≡ at + (5 + length text) → next + 1 ≤ 67108864 → Leads config file new next
      leads_on new next is place room =
          let there = entry_there file text at e says stands short in
          let size = behind_size file (texts_of leads.entries) at leads.front in
          let behind = behind_more file (entry_text e) (texts_of leads.entries) at leads.front there.stands in
          let here : at + (5 + length (entry_text e)) ≡ next = omega (arith, place, same) in
          record {
            entries = leads.entries ++ e ∷ [];
            kept = kept_more config leads.entries e leads.kept there.exact free there.short (omega (arith, size, room, place, same));
            front = subst (λ (n : ℕ). IsBehind (texts_of (leads.entries ++ e ∷ [])) n file) here
                (subst (λ (l : List (List ℕ)). IsBehind l (at + (5 + length (entry_text e))) file) (sym (texts-push leads.entries e)) behind);
            content_is = is ∙ ap (λ (c : Content). after c e) leads.content_is ∙ sym (state_after-append (start_of config) leads.entries (e ∷ []));
          }

-- ---- what was read of a file

-- the rest of a file is missing where it is longer than what is read
filled : (items : List ℕ) (size missing : ℕ) → length items ≡ min size 67371012 → missing ≡ size - length items
    → (items ≡ take 67371012 (items ++ replicate missing 0)) × (size ≡ length (items ++ replicate missing 0))
filled items size missing is left = (
  elim (cases_lt size 67371012) [
    | inr long ↦ sym (take_at items (replicate missing 0) 67371012 (omega (arith, is, long)))
    | inl less ↦
        let none : missing ≡ 0 = omega (arith, is, left, less) in
        let whole : items ++ replicate missing 0 ≡ items = ap (λ (n : ℕ). items ++ replicate n 0) none ∙ append-nil items in
        sym (ap (λ (l : List ℕ). take 67371012 l) whole ∙ take_all 67371012 items (omega (arith, is)))
  ],
  omega (arith, is, left, length-append items (replicate missing 0), length-replicate {A = ℕ} missing 0),
)

-- what was read was read of some file
some_file : (read : JournalFile) → (file : List ℕ) × IsReadOf file read
some_file read =
    let missing = read.length - length read.bytes.items in
    let size : length read.bytes.items ≡ min read.length 67371012 = search (rules, read.front) in
    let is = filled read.bytes.items read.length missing size refl in
    (read.bytes.items ++ replicate missing 0, record { front = is.0; size = is.1 })

pub marker_missing : (config : Config) (file : List ℕ) → (HasMarker file → ⊥) → Replays config file (Err (Refused 0 J1))
marker_missing config file none = (refl, none)

pub no_fault : (replayed : Result JournalOpening ReplayFault) → opened_as replayed ≡ Err Fault → ⊥
no_fault (Ok opening) is = cc is
no_fault (Err (Refused at rule)) is = cc is
no_fault (Err Memory) is = cc is

module _ (config : Config) (new : Option Told) (read : JournalFile) where
  pub opens : (old : Option Told) (replayed : Result JournalOpening ReplayFault) → IfSome old (λ t. IsReadOf t.now.bytes read) → new ≡ told_synced old
      → ((file : List ℕ) → IsReadOf file read → Replays config file replayed) → Opens config old new (opened_as replayed)
  opens None (Ok opening) reads synced replays =
      let f = some_file read in
      let h = replays f.0 f.1 in
      record {
        entries = h.entries;
        kept = h.kept;
        content_is = h.content_is;
        len_is = h.len_is;
        reads = tt;
        settled = subst (λ (t : Option Told). Settled (texts_of h.entries) opening.end.len t) (sym synced) tt;
      }
  opens (Some told) (Ok opening) reads synced replays =
      let h = replays told.now.bytes reads in
      record {
        entries = h.entries;
        kept = h.kept;
        content_is = h.content_is;
        len_is = h.len_is;
        reads = h.stands;
        settled = subst (λ (t : Option Told). Settled (texts_of h.entries) opening.end.len t) (sym synced)
            (subst (λ (n : ℕ). Settled (texts_of h.entries) n (told_synced (Some told))) (sym h.len_is) (sync_settles (texts_of h.entries) (Some told) h.stands));
      }
  opens None (Err (Refused at rule)) reads synced replays = tt
  opens (Some told) (Err (Refused at rule)) reads synced replays = replays told.now.bytes reads
  opens old (Err Memory) reads synced replays = tt
