-- What a crash leaves while an entry is recorded.
use Rattle.std.proofs.Common.{◌≡◌, ◌⊎◌, inl, ℕ, Bool, true, false, List, [], ◌∷◌, ◌++◌, refl, sym, ap, ◌∙◌, subst}
use Rattle.std.specs.Prelude.{Option, None, Some, if◌then◌else◌}
use Rattle.grant_journal.specs.JournalBytes.{Settled, StandsFor}
use Rattle.grant_journal.specs.Journals.{JournalView}
use Rattle.grant_journal.proofs.Stands.{settled_now}
use Rattle.links.specs.Prepared.{PreparedEntry}
use Rattle.links.specs.State.{Kept}
use Rattle.service_journal.specs.Journals.{fits_behind}
use Rattle.sts_core.specs.Machine.{no_entry}
use Rattle.sts_core.specs.Proposals.{CanRecord, answered, fits, texts_with}
use Rattle.sts_core.specs.State.{JournalStays}
use Rattle.sts_core.specs.declared.proposal.Proposal.{Proposal}
use Rattle.sts_core.specs.declared.proposal.Proposal.TheVariants.{Record}
use Rattle.sts_core.specs.declared.stop.Stop.{Stop}
use Rattle.sts_core.specs.declared.stop.Stop.TheVariants.{Memory, Journal, Broken}
use Rattle.sts_replies.specs.Replies.{journal_full}
use Rattle.wif_base.specs.Disk.{Leaves, Told}
use Rattle.wif_base.specs.declared.request.Reply.{Reply}
use Rattle.wif_base.proofs.Moments.{leaves-starts, now-weaker}

-- one of two lists of texts
abbrev pub Either : List (List ℕ) → List (List ℕ) → List ℕ → Type 0
Either texts other image = StandsFor texts image ⊎ StandsFor other image

-- where nothing was done, the texts stand
pub stands_still : (texts other : List (List ℕ)) (len : ℕ) (told : Option Told) → Settled texts len told → Leaves told told (Either texts other)
stands_still texts other len told settled =
    leaves-starts told (Either texts other)
    (now-weaker told (StandsFor texts) (Either texts other) (λ image stands. inl stands) (settled_now texts len told settled))

pub stands_same : (texts other : List (List ℕ)) (old new : JournalView) → new ≡ old → Settled texts old.len old.told → Leaves old.told new.told (Either texts other)
stands_same texts other old new same settled =
    subst (λ (t : Option Told). Leaves old.told t (Either texts other)) (sym (ap (λ (j : JournalView). j.told) same)) (stands_still texts other old.len old.told settled)

-- the text that is stored is the one of the entry that is answered
pub stored_texts : (state : Kept) (size : ℕ) (code : List ℕ) (texts : List (List ℕ)) (proposal : Proposal) (prepared : PreparedEntry) (text : List ℕ) (reply : Reply)
    → proposal ≡ Record prepared text reply → CanRecord state prepared text → fits size text ≡ true
    → texts_with texts (answered size code proposal).entry ≡ texts ++ text ∷ []
stored_texts state size code texts proposal prepared text reply is can fit =
    let room : fits_behind size prepared.entry ≡ true = subst (λ (t : List ℕ). fits size t ≡ true) can.text_is fit in
    ap (λ (p : Proposal). texts_with texts (answered size code p).entry) is
    ∙ ap (λ (b : Bool). texts_with texts (if b then (record { reply = reply; entry = Some prepared.entry }) else no_entry (journal_full code)).entry) room
    ∙ ap (λ (t : List ℕ). texts ++ t ∷ []) (sym can.text_is)

-- nothing was stored, or the disk failed while a text was
pub stopped_moments : (stop : Stop) (texts other : List (List ℕ)) (text : List ℕ) (old new : JournalView) → JournalStays stop old new
    → Settled texts old.len old.told → (stop ≡ Journal → other ≡ texts ++ text ∷ [])
    → Leaves old.told new.told (Either texts (texts ++ text ∷ [])) → Leaves old.told new.told (Either texts other)
stopped_moments Memory texts other text old new stays settled is leaves = stands_same texts other old new stays settled
stopped_moments Journal texts other text old new stays settled is leaves =
    subst (λ (texts' : List (List ℕ)). Leaves old.told new.told (Either texts texts')) (sym (is refl)) leaves
stopped_moments Broken texts other text old new stays settled is leaves = stands_same texts other old new stays settled
