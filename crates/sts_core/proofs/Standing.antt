-- A service that stood for a journal stands for it and the entry of a step.
use Rattle.std.proofs.Common.{◌≡◌, ◌⊎◌, ◌≤◌, ◌*◌, ℕ, ◌+◌, Bool, true, false, List, [], ◌∷◌, ◌++◌, length, refl, sym, ap, ◌∙◌, subst, arith, length-append}
use Rattle.std.specs.Prelude.{⊤, Option, None, Some, Result, Ok, Err, OnOk, IfErr, if◌then◌else◌}
use Rattle.entry_texts.specs.Exact.{IsExactEntry}
use Rattle.entry_texts.specs.Written.{entry_text}
use Rattle.grant_journal.specs.JournalBytes.{Settled, StandsFor}
use Rattle.links.specs.declared.entry.Entry.{Entry}
use Rattle.links.specs.Entries.{IsEntry}
use Rattle.links.specs.Licence.{Licensed}
use Rattle.links.specs.Prepared.{PreparedEntry}
use Rattle.links.specs.State.{Content, Kept, content_of, state_after}
use Rattle.service_config.specs.declared.config.Config.{Config}
use Rattle.service_journal.specs.Journals.{IsKept, fits_behind, journal_size, texts_of}
use Rattle.service_journal.proofs.KeptJournals.{kept_fits}
use Rattle.service_journal.proofs.Texts.{journal_size-push, texts-push}
use Rattle.sts_core.specs.Machine.{Answer, no_entry, where_it_fits, with_entry}
use Rattle.sts_core.specs.Proposals.{CanRecord, IsReady, answered, proposed_answer, size_with, texts_with}
use Rattle.sts_core.specs.State.{JournalStays, Standing, Stands, StandsForEither}
use Rattle.sts_core.specs.declared.stop.Stop.{Stop}
use Rattle.sts_core.specs.declared.stop.Stop.TheVariants.{Memory, Journal, Broken}
use Rattle.grant_journal.specs.Journals.{JournalView}
use Rattle.links.proofs.Journals.{follows}
use Rattle.sts_core.proofs.Carrying.{stands_still}
use Rattle.sts_core.specs.declared.proposal.Proposal.{Proposal}
use Rattle.sts_core.specs.declared.proposal.Proposal.TheVariants.{Refused, Record}
use Rattle.sts_core.proofs.Checked.{state_left}
use Rattle.sts_replies.specs.Replies.{journal_full}
use Rattle.wif_base.specs.Disk.{Leaves, Told}
use Rattle.wif_base.proofs.Moments.{leaves-weaker}
use Rattle.wif_base.specs.declared.request.Reply.{Reply}

-- ---- a journal with an entry more

pub texts_added : (journal : List Entry) (e : Option Entry) → texts_with (texts_of journal) e ≡ texts_of (with_entry journal e)
texts_added journal None = refl
texts_added journal (Some e) = sym (texts-push journal e)

size_added : (journal : List Entry) (e : Option Entry) → size_with (journal_size journal) e ≡ journal_size (with_entry journal e)
size_added journal None = refl
size_added journal (Some e) = sym (journal_size-push journal e)

-- ---- the entry that is answered

-- it can follow a journal of so many bytes that leaves the content
abbrev pub IsNext : Content → ℕ → Option Entry → Type 0
IsNext c size None = ⊤
IsNext c size (Some e) = IsEntry e × IsExactEntry e × Licensed c e × (fits_behind size e ≡ true)

next_by : (state : Kept) (size : ℕ) (code : List ℕ) (prepared : PreparedEntry) (text : List ℕ) (reply : Reply) (fits : Bool)
    → fits_behind size prepared.entry ≡ fits → CanRecord state prepared text
    → IsNext state.content size (if fits then (record { reply = reply; entry = Some prepared.entry }) else no_entry (journal_full code)).entry
next_by state size code prepared text reply true is can = (can.form, can.exact, can.licensed, is)
next_by state size code prepared text reply false is can = tt

pub next_of : (state : Kept) (size : ℕ) (code : List ℕ) (proposal : Proposal) → IsReady state proposal → IsNext state.content size (answered size code proposal).entry
next_of state size code (Refused reply) ready = tt
next_of state size code (Record prepared text reply) can = next_by state size code prepared text reply (fits_behind size prepared.entry) refl can

kept_with : (config : Config) (journal : List Entry) (e : Option Entry) → IsKept config journal → IsNext (content_of config journal) (journal_size journal) e
    → IsKept config (with_entry journal e)
kept_with config journal None kept next = kept
kept_with config journal (Some e) kept next = kept_fits config journal e kept next.1 next.2 next.3

-- ---- the service

stands_with : (old new : Standing) (config : Config) (journal : List Entry) (e : Option Entry) → Stands old config journal → IsNext old.content old.journal.len e
    → new.admin ≡ old.admin → new.gate ≡ old.gate → new.content ≡ state_after old.content (with_entry [] e)
    → new.journal.len ≡ size_with old.journal.len e → new.journal.broken ≡ old.journal.broken
    → Settled (texts_with (texts_of journal) e) new.journal.len new.journal.told
    → Stands new config (with_entry journal e)
stands_with old new config journal e stands next admin gate content size whole settled = record {
  content = content ∙ ap (λ (c : Content). state_after c (with_entry [] e)) stands.content ∙ state_left config journal e;
  admin = admin ∙ stands.admin;
  gate = gate ∙ stands.gate;
  formed = stands.formed;
  kept = kept_with config journal e stands.kept (subst (λ (n : ℕ). IsNext (content_of config journal) n e) stands.size
      (subst (λ (c : Content). IsNext c old.journal.len e) stands.content next));
  size = size ∙ ap (λ (n : ℕ). size_with n e) stands.size ∙ size_added journal e;
  whole = whole ∙ stands.whole;
  settled = subst (λ (texts : List (List ℕ)). Settled texts new.journal.len new.journal.told) (texts_added journal e) settled;
}

pub stands_after : {T E : Type 0} (r : Result T E) (old new : Standing) (config : Config) (journal : List Entry) (e f : Option Entry)
    → Stands old config journal → IsNext old.content old.journal.len e → e ≡ f
    → new.admin ≡ old.admin → new.gate ≡ old.gate → OnOk r (new.content ≡ state_after old.content (with_entry [] e))
    → OnOk r (new.journal.len ≡ size_with old.journal.len e) → OnOk r (new.journal.broken ≡ old.journal.broken)
    → OnOk r (Settled (texts_with (texts_of journal) e) new.journal.len new.journal.told)
    → OnOk r (Stands new config (with_entry journal f))
stands_after (Ok done) old new config journal e f stands next same admin gate content size whole settled =
    subst (λ (g : Option Entry). Stands new config (with_entry journal g)) same
    (stands_with old new config journal e stands next admin gate content size whole settled)
stands_after (Err fault) old new config journal e f stands next same admin gate content size whole settled = tt

pub leaves_either : (old new : Option Told) (journal : List Entry) (e f : Option Entry) → e ≡ f
    → Leaves old new (λ image. StandsFor (texts_of journal) image ⊎ StandsFor (texts_with (texts_of journal) e) image)
    → Leaves old new (StandsForEither journal (with_entry journal f))
leaves_either old new journal e f same leaves =
    subst (λ (g : Option Entry). Leaves old new (StandsForEither journal (with_entry journal g))) same
    (subst (λ (texts : List (List ℕ)). Leaves old new (λ image. StandsFor (texts_of journal) image ⊎ StandsFor texts image)) (texts_added journal e) leaves)

-- the answer over the content and the journal's size
pub same_answer : (old : Standing) (config : Config) (journal : List Entry) (code : List ℕ) (proposed : Answer) (answer : Content → Answer)
    → Stands old config journal → proposed ≡ answer old.content
    → where_it_fits old.journal.len code proposed ≡ where_it_fits (journal_size journal) code (answer (content_of config journal))
same_answer old config journal code proposed answer stands is =
    ap (λ (a : Answer). where_it_fits old.journal.len code a) (is ∙ ap answer stands.content)
    ∙ ap (λ (n : ℕ). where_it_fits n code (answer (content_of config journal))) stands.size

-- ---- a call that carries out what it proposes

-- the service stands for the journal and the entry that is answered
pub carried_on : {T E : Type 0} (r : Result T E) (mine new : Standing) (state : Kept) (proposal : Proposal) (code : List ℕ) (base : Content → Answer) (config : Config) (journal : List Entry)
    → Stands mine config journal → state.content ≡ mine.content → IsReady state proposal → proposed_answer proposal ≡ base mine.content
    → new.admin ≡ mine.admin → new.gate ≡ mine.gate
    → OnOk r (new.content ≡ state_after state.content (with_entry [] (answered mine.journal.len code proposal).entry))
    → OnOk r (new.journal.len ≡ size_with mine.journal.len (answered mine.journal.len code proposal).entry)
    → OnOk r (new.journal.broken ≡ mine.journal.broken)
    → ((texts : List (List ℕ)) → Settled texts mine.journal.len mine.journal.told
    → OnOk r (Settled (texts_with texts (answered mine.journal.len code proposal).entry) new.journal.len new.journal.told))
    → OnOk r (Stands new config (with_entry journal (where_it_fits (journal_size journal) code (base (content_of config journal))).entry))
carried_on r mine new state proposal code base config journal stands same ready is admin gate content size whole settled =
    let e = (answered mine.journal.len code proposal).entry in
    stands_after r mine new config journal e (where_it_fits (journal_size journal) code (base (content_of config journal))).entry stands
    (subst (λ (c : Content). IsNext c mine.journal.len e) same (next_of state mine.journal.len code proposal ready))
    (ap (λ (a : Answer). a.entry) (same_answer mine config journal code (proposed_answer proposal) base stands is))
    admin gate
    (subst (λ (c : Content). OnOk r (new.content ≡ state_after c (with_entry [] e))) same content)
    size whole (settled (texts_of journal) stands.settled)

-- a crash leaves the journal without the entry that is answered or with it
pub carried_moments : (mine : Standing) (told : Option Told) (proposal : Proposal) (code : List ℕ) (base : Content → Answer) (config : Config) (journal : List Entry)
    → Stands mine config journal → proposed_answer proposal ≡ base mine.content
    → ((texts : List (List ℕ)) → Settled texts mine.journal.len mine.journal.told
    → Leaves mine.journal.told told (λ image. StandsFor texts image ⊎ StandsFor (texts_with texts (answered mine.journal.len code proposal).entry) image))
    → Leaves mine.journal.told told (StandsForEither journal (with_entry journal (where_it_fits (journal_size journal) code (base (content_of config journal))).entry))
carried_moments mine told proposal code base config journal stands is leaves =
    leaves_either mine.journal.told told journal (answered mine.journal.len code proposal).entry
    (where_it_fits (journal_size journal) code (base (content_of config journal))).entry
    (ap (λ (a : Answer). a.entry) (same_answer mine config journal code (proposed_answer proposal) base stands is))
    (leaves (texts_of journal) stands.settled)

-- where nothing was done the journal stands
pub still_either : (old mine : Standing) (config : Config) (journal other : List Entry) → old ≡ mine → Stands old config journal
    → Leaves old.journal.told mine.journal.told (StandsForEither journal other)
still_either old mine config journal other same stands =
    subst (λ (s : Standing). Leaves old.journal.told s.journal.told (StandsForEither journal other)) same
    (stands_still (texts_of journal) (texts_of other) old.journal.len old.journal.told stands.settled)

-- each entry has five bytes and more
pub room_kept : {T : Type 0} (r : Result T Stop) (old new : Content) (j k : JournalView) (e : Option Entry) → 9 + 5 * old.count ≤ j.len
    → OnOk r (new ≡ state_after old (with_entry [] e)) → OnOk r (k.len ≡ size_with j.len e)
    → IfErr r (λ stop. (new ≡ old) × JournalStays stop j k) → k.broken ≡ false → 9 + 5 * new.count ≤ k.len
room_kept (Ok done) old new j k None room content size stays whole = omega (arith, room, ap (λ (c : Content). c.count) content, size)
room_kept (Ok done) old new j k (Some e) room content size stays whole =
    omega (arith, room, ap (λ (c : Content). c.count) content, (follows old (e ∷ [])).count, size)
room_kept (Err Memory) old new j k e room content size stays whole =
    omega (arith, room, ap (λ (c : Content). c.count) stays.0, ap (λ (v : JournalView). v.len) stays.1)
room_kept (Err Journal) old new j k e room content size stays whole = absurd (cc (stays.1, whole))
room_kept (Err Broken) old new j k e room content size stays whole =
    omega (arith, room, ap (λ (c : Content). c.count) stays.0, ap (λ (v : JournalView). v.len) stays.1)
