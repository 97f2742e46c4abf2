-- What a crash leaves while the empty journal is written.
use Rattle.std.proofs.Common.{◌≡◌, inl, inr, ℕ, ◌<◌, ◌≤◌, List, [], ◌∷◌, ◌++◌, length, get_or, refl, sym, ap, ◌∙◌, arith, length-append}
use Rattle.std.specs.Prelude.{Option, None, Some}
use Rattle.std.proofs.lemmas.Bool.{cases_lt}
use Rattle.wif_base.specs.Disk.{Told, Held, MayLeave, EachImage, LeavesOnly, Leaves, LeavesNow, Torn, with_range, after_write, told_written, told_synced, FailsWrite}
use Rattle.wif_base.proofs.Images.{itself, written-torn, synced-fewer}
use Rattle.wif_base.proofs.Moments.{starts, steps}
use Rattle.grant_journal.specs.JournalBytes.{before_gate, opened}
use Rattle.grant_journal.specs.Emptying.{IsEmptyOrNone}

no_texts : (texts : List (List ℕ)) → length (opened texts) ≡ 0 → texts ≡ []
no_texts [] size = refl
no_texts (t ∷ texts) size = absurd (omega arith)

-- nine bytes have room for no record
short : (image : List ℕ) → length image ≤ 9 → IsEmptyOrNone image
short image size texts s = let room : length (before_gate texts) ≤ 8 = fits (before_gate texts) s.0 s.1 (ap length s.2) in no_texts texts (omega (arith, room))
  where
    fits : (B : List ℕ) (g : ℕ) (rest : List ℕ) → length image ≡ length (B ++ g ∷ rest) → length B ≤ 8
    fits B g rest e = omega (arith, e, size, length-append B (g ∷ rest))

-- the length at the last sync was 0
nothing_synced : (held : Held) → EachImage (λ image. image ≡ []) held → held.synced ≡ 0
nothing_synced held each = elim (cases_lt 0 held.synced) [
  | inr le ↦ omega (arith, le)
  | inl gt ↦ absurd (omega (arith, ap length (each (0 ∷ []) (one gt))))
]
  where
    empty : held.bytes ≡ []
    empty = each held.bytes (itself held)

    one : 0 < held.synced → MayLeave held (0 ∷ [])
    one gt = record {
      no_shorter = omega (arith, ap length empty);
      no_longer = omega (arith, gt);
      same = λ i a b c. (let zero_is : i ≡ 0 = omega (arith, b) in ap (λ (k : ℕ). get_or (0 ∷ []) k 0) zero_is) ∙ sym (ap (λ (l : List ℕ). get_or l i 0) empty);
    }

module _ (piece : List ℕ) (nine : length piece ≡ 9) where
  torn_short : (held : Held) (size : ℕ) (bytes : List ℕ) → size ≡ 9 → EachImage (λ image. image ≡ []) held → Torn 0 size held.bytes bytes
      → EachImage IsEmptyOrNone (with_range held 0 size bytes)
  torn_short held size bytes is each torn image left =
      short image (omega (arith, is, left.no_longer, nothing_synced held each, torn.no_longer, ap length (each held.bytes (itself held))))

  first : (t : Told) → EachImage (λ image. image ≡ []) t.now → LeavesOnly t t IsEmptyOrNone
  first t each = starts t _ (λ image left. short image (omega (arith, ap length (each image left))))

  one : (t : Told) → EachImage (λ image. image ≡ []) t.now → EachImage IsEmptyOrNone (after_write t.now 0 piece)
  one t each = torn_short t.now (length piece) _ nine each (written-torn t.now.bytes 0 piece (omega arith))

  pub empty_failed : (old new : Option Told) → LeavesNow old (λ image. image ≡ []) → FailsWrite old 0 (length piece) new → Leaves old new IsEmptyOrNone
  empty_failed None new each fails = fails
  empty_failed (Some t) new each (inl same) = (t, same, first t each)
  empty_failed (Some t) new each (inr (bytes, torn, is)) = (_, is, steps t t _ _ (first t each) (torn_short t.now (length piece) bytes nine each torn))

  pub empty_written : (old new : Option Told) → LeavesNow old (λ image. image ≡ []) → new ≡ told_written old 0 piece → Leaves old new IsEmptyOrNone
  empty_written None new each is = is
  empty_written (Some t) new each is = (_, is, steps t t _ _ (first t each) (one t each))

  pub empty_synced : (old new : Option Told) → LeavesNow old (λ image. image ≡ []) → new ≡ told_synced (told_written old 0 piece) → Leaves old new IsEmptyOrNone
  empty_synced None new each is = is
  empty_synced (Some t) new each is =
      (_, is, steps t _ _ _ (steps t t _ _ (first t each) (one t each)) (synced-fewer (after_write t.now 0 piece) _ (one t each)))
