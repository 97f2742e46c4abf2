-- What a settled disk and one that reads as a journal may leave.
use Rattle.std.proofs.Common.{◌≡◌, ◌⊎◌, inl, inr, ℕ, ◌+◌, List, [], ◌∷◌, ◌++◌, length, refl, sym, ap, ◌∙◌, subst, arith}
use Rattle.std.specs.Prelude.{Option, None, Some}
use Rattle.wif_base.specs.Disk.{Held, Told, MayLeave, LeavesNow, told_synced, after_sync}
use Rattle.wif_base.proofs.Images.{synced, itself}
use Rattle.grant_journal.specs.JournalBytes.{StandsFor, IsBeforeOrAfter, Rests, Settled, ReadsAs, before_gate, journal_bytes}
use Rattle.grant_journal.specs.Places.{IsBehind, IsClosedAt}
use Rattle.grant_journal.proofs.Finding.{behind_closed, journal_size}
use Rattle.grant_journal.proofs.Unique.{one_list}

pub settled_now : (texts : List (List ℕ)) (len : ℕ) (told : Option Told) → Settled texts len told → LeavesNow told (StandsFor texts)
settled_now texts len None s = tt
settled_now texts len (Some t) s = λ image left. (s.stands.0, s.stands.1, synced t.now s.pending s.synced image left ∙ s.stands.2, s.stands.3)

-- as it reads it is one of its images
pub reads_as : (texts : List (List ℕ)) (told : Option Told) → LeavesNow told (StandsFor texts) → ReadsAs texts told
reads_as texts None here = tt
reads_as texts (Some t) here = here t.now.bytes (itself t.now)

pub reads_synced : (texts : List (List ℕ)) (told : Option Told) → ReadsAs texts told → LeavesNow (told_synced told) (StandsFor texts)
reads_synced texts None reads = tt
reads_synced texts (Some t) reads = λ image left. (reads.0, reads.1, synced (after_sync t.now) refl refl image left ∙ reads.2, reads.3)

-- opening by a sync settles it
pub reads_settled : (texts : List (List ℕ)) (len : ℕ) (old new : Option Told) → ReadsAs texts old → len ≡ length (before_gate texts) + 1
    → new ≡ told_synced old → Settled texts len new
reads_settled texts len None new reads size is = subst (Settled texts len) (sym is) tt
reads_settled texts len (Some t) new reads size is = subst (Settled texts len) (sym is) record { stands = reads; len_is = size; pending = refl; synced = refl }

-- it reads as one list, where it tells
pub same_kept : (told : Option Told) (xs ys : List (List ℕ)) → ReadsAs xs told → ReadsAs ys told → (told ≡ None) ⊎ (xs ≡ ys)
same_kept None xs ys a b = inl refl
same_kept (Some t) xs ys a b = inr (one_list t.now.bytes xs ys a b)

pub sync_settles : (texts : List (List ℕ)) (told : Option Told) → ReadsAs texts told → Settled texts (length (journal_bytes texts)) (told_synced told)
sync_settles texts told reads = reads_settled texts (length (journal_bytes texts)) told (told_synced told) reads (journal_size texts) refl

-- What is read place by place from what a crash left.

pub acknowledged : (texts found : List (List ℕ)) (len at : ℕ) (held : Held) (image : List ℕ) → Rests texts len held → MayLeave held image
    → IsBehind found at image → IsClosedAt image at → (found ≡ texts) × (at + 1 ≡ len)
acknowledged texts found len at held image r left b shut =
    let s : StandsFor texts image = (r.stands.0, r.stands.1, synced held r.pending r.synced image left ∙ r.stands.2, r.stands.3) in
    let same : found ≡ texts = one_list image found texts (behind_closed image found at b shut) s in
    (same, omega (arith, b.place, ap (λ (l : List (List ℕ)). length (before_gate l)) same, r.len_is))

pub before_or_after : (texts found : List (List ℕ)) (text image : List ℕ) (at : ℕ) → IsBeforeOrAfter texts text image
    → IsBehind found at image → IsClosedAt image at → (found ≡ texts) ⊎ (found ≡ texts ++ text ∷ [])
before_or_after texts found text image at (inl s) b shut = inl (one_list image found texts (behind_closed image found at b shut) s)
before_or_after texts found text image at (inr s) b shut = inr (one_list image found (texts ++ text ∷ []) (behind_closed image found at b shut) s)
