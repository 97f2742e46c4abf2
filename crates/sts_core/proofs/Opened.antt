-- A service that was opened stands for the journal that its disk held.
use Rattle.std.proofs.Common.{◌≡◌, ℕ, suc, ◌+◌, ◌*◌, ◌≤◌, false, List, [], ◌∷◌, ◌++◌, length, refl, sym, ap, ◌∙◌, subst, arith, length-append}
use Rattle.std.specs.Prelude.{Option, None, Some, IfSome}
use Rattle.grant_journal.specs.JournalBytes.{ReadsAs, Settled, before_gate, four_bytes, marker, opened}
use Rattle.links.specs.State.{Content, start_of}
use Rattle.links.proofs.Journals.{follows}
use Rattle.links.specs.declared.entry.Entry.{Entry}
use Rattle.service_config.specs.declared.config.Config.{Config}
use Rattle.service_journal.specs.Journals.{journal_size, texts_of}
use Rattle.service_journal.specs.Opening.{FindsJournal}
use Rattle.sts_core.specs.Opened.{FindsService}
use Rattle.sts_core.specs.State.{Standing, Stands}
use Rattle.sts_core.specs.declared.opening.Opening.{Opening}
use Rattle.wif_base.specs.Disk.{Told}

-- the closed gate is inside the file
inside : (texts : List (List ℕ)) (len : ℕ) (told : Option Told) → Settled texts len told → IfSome told (λ t. len ≤ length t.now.bytes)
inside texts len None settled = tt
inside texts len (Some told) settled =
    let (gate, rest, is, shut) = settled.stands in
    omega (arith, settled.len_is, ap length is, length-append (before_gate texts) (gate ∷ rest))

pub inside_of : (config : Config) (old new : Option Told) (content : Content) (len : ℕ) → FindsJournal config old new content len
    → IfSome new (λ t. len ≤ length t.now.bytes)
inside_of config old new content len found = inside (texts_of found.entries) len new found.settled

pub stands_opened : (sts : Standing) (config : Config) (old new : Option Told) (opening : Opening) → FindsService config old new opening
    → sts.content ≡ opening.journal.state.content → sts.admin ≡ opening.admin → sts.gate ≡ opening.gate
    → sts.journal.len ≡ opening.journal.end.len → sts.journal.broken ≡ false → sts.journal.told ≡ new
    → (journal : List Entry) × Stands sts config journal × ReadsAs (texts_of journal) old
stands_opened sts config old new opening found content admin gate len whole told =
    let j = found.journal in (
      j.entries,
      record {
        content = content ∙ j.content_is;
        admin = admin ∙ found.admin;
        gate = gate ∙ found.gate;
        formed = found.formed;
        kept = j.kept;
        size = len ∙ j.len_is;
        whole = whole;
        settled = subst (λ (t : Option Told). Settled (texts_of j.entries) sts.journal.len t) (sym told)
            (subst (λ (n : ℕ). Settled (texts_of j.entries) n new) (sym len) j.settled);
      },
      j.reads,
    )

-- ---- each entry has five bytes of the journal and more

opened-long : (texts : List (List ℕ)) → 5 * length texts ≤ length (opened texts)
opened-long [] = omega arith
opened-long (text ∷ texts) =
    let more = opened-long texts in
    omega (arith, more, length-append (four_bytes (length text)) (text ++ opened texts), length-append text (opened texts))

texts-length : (entries : List Entry) → length (texts_of entries) ≡ length entries
texts-length [] = refl
texts-length (e ∷ entries) = ap suc (texts-length entries)

size-long : (entries : List Entry) → 9 + 5 * length entries ≤ journal_size entries
size-long entries =
    omega (
      arith,
      opened-long (texts_of entries),
      texts-length entries,
      length-append marker (opened (texts_of entries)),
      length-append (before_gate (texts_of entries)) (0 ∷ []),
    )

pub few_of : (config : Config) (old new : Option Told) (content : Content) (len : ℕ) → FindsJournal config old new content len → 9 + 5 * content.count ≤ len
few_of config old new content len found =
    omega (arith, size-long found.entries, (follows (start_of config) found.entries).count, ap (λ (c : Content). c.count) found.content_is, found.len_is)
