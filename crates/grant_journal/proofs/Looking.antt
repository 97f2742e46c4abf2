-- What was read of a file tells what stands in it.
use Rattle.std.proofs.Common.{◌≡◌, ◌≢◌, ◌⊎◌, ◌<◌, ◌≤◌, inl, inr, ℕ, ◌+◌, ◌-◌, Bool, true, min, List, ◌∷◌, ◌++◌, length, get_or, take, drop, sym, ◌∙◌, ap, subst, arith, append_assoc, take-append-drop}
use Rattle.std.specs.Prelude.{Option, None, Some, IfSome}
use Rattle.std.proofs.lemmas.List.{drop_more, drop-append-le, length-drop, length-take, length-take-le, take-take, take_min}
use Rattle.wif_base.specs.Disk.{Told, told_synced}
use Rattle.grant_journal.specs.JournalBytes.{four_bytes, marker}
use Rattle.grant_journal.specs.Places.{HasMarker, IsClosedAt, IsRecordAt, PassesEnd, IsTooLongAt}
use Rattle.grant_journal.specs.Reading.{IsReadOf}
use Rattle.grant_journal.specs.declared.journal_file.JournalFile.{JournalFile}
use Rattle.grant_journal.proofs.Finding.{byte_at, record_from, number_there}

pub marker_read : (file bytes : List ℕ) → bytes ≡ take 67371012 file → (found : Bool)
    → (found ≡ true → bytes ≡ marker ++ drop 8 bytes) × ((rest : List ℕ) → bytes ≡ marker ++ rest → found ≡ true)
    → (found ≡ true → HasMarker file) × (HasMarker file → found ≡ true)
marker_read file bytes front found tells =
    let same : take 8 bytes ≡ take 8 file = ap (λ (l : List ℕ). take 8 l) front ∙ take-take 8 67371012 file (omega arith) in (
      λ yes. sym same ∙ ap (λ (l : List ℕ). take 8 l) (tells.0 yes),
      λ has. tells.1 (drop 8 bytes) (sym (take-append-drop 8 bytes) ∙ ap (λ (l : List ℕ). l ++ drop 8 bytes) (same ∙ has)),
    )

-- the rest of what was read, behind a place within the limit and within the file
module _ (file bytes piece : List ℕ) (at : ℕ) (front : bytes ≡ take 67371012 file)
    (is : piece ≡ drop at bytes) (inside : at < length file) (within : at < 67108864) where
  size : length piece ≡ min 67371012 (length file) - at
  size = omega (arith, ap length front, length-take 67371012 file, ap length is, length-drop at bytes)

  there : drop at file ≡ piece ++ drop 67371012 file
  there =
      ap (λ (l : List ℕ). drop at l) (sym (take-append-drop 67371012 file))
      ∙ drop-append-le at (take 67371012 file) (drop 67371012 file) (omega (arith, length-take 67371012 file))
      ∙ ap (λ (l : List ℕ). drop at l ++ drop 67371012 file) (sym front) ∙ ap (λ (l : List ℕ). l ++ drop 67371012 file) (sym is)

  whole : piece ≡ get_or piece 0 0 ∷ drop 1 piece
  whole = drop_more piece 0 0 (omega (arith, size))

  gate : get_or file at 0 ≡ get_or piece 0 0
  gate = byte_at file at (get_or piece 0 0) (drop 1 piece ++ drop 67371012 file) (there ∙ ap (λ (l : List ℕ). l ++ drop 67371012 file) whole)

  pub closed_read : get_or piece 0 0 ≢ 1 → IsClosedAt file at
  closed_read shut = (inside, λ one. shut (sym gate ∙ one))

  -- the gate is open
  module _ (behind : List ℕ) (one : get_or piece 0 0 ≡ 1) (rest : behind ≡ drop 1 piece) where
    pub short_read : length behind < 4 → PassesEnd file at
    short_read short = inr (gate ∙ one, omega (arith, short, size, ap length rest, length-drop 1 piece))

    -- the four bytes tell this number
    module _ (number : ℕ) (told : take 4 behind ≡ four_bytes number) where
      record_read : drop at file ≡ 1 ∷ (four_bytes number ++ (drop 4 behind ++ drop 67371012 file))
      record_read =
          there ∙ ap (λ (l : List ℕ). l ++ drop 67371012 file) (whole ∙ (λ i. one i ∷ split i))
          ∙ append_assoc (1 ∷ four_bytes number) (drop 4 behind) (drop 67371012 file)
        where
          split : drop 1 piece ≡ four_bytes number ++ drop 4 behind
          split = sym rest ∙ sym (take-append-drop 4 behind) ∙ ap (λ (l : List ℕ). l ++ drop 4 behind) told

      pub end_read : length file - at < 5 + number → PassesEnd file at
      end_read past = inr (gate ∙ one, omega (arith, past, inside, number_there file at number _ record_read))

      pub long_read : 5 + number ≤ length file - at → 262144 < number → IsTooLongAt file at
      long_read fits long = record {
        open_gate = gate ∙ one;
        inside = omega (arith, fits, inside, number_there file at number _ record_read);
        long = omega (arith, long, number_there file at number _ record_read);
      }

      pub text_read : (text : List ℕ) → length text ≡ number → text ≡ take number (drop 4 behind) → IsRecordAt file at text
      text_read text long from =
          record_from file at text (drop number (drop 4 behind) ++ drop 67371012 file)
          (record_read ∙ (λ i. 1 ∷ (four_bytes (sym long i) ++ split i)))
        where
          split : drop 4 behind ++ drop 67371012 file ≡ text ++ (drop number (drop 4 behind) ++ drop 67371012 file)
          split =
              ap (λ (l : List ℕ). l ++ drop 67371012 file) (sym (take-append-drop number (drop 4 behind)))
              ∙ ap (λ (l : List ℕ). (l ++ drop number (drop 4 behind)) ++ drop 67371012 file) (sym from)
              ∙ append_assoc text (drop number (drop 4 behind)) (drop 67371012 file)

-- What a sync, the length and one read give is what was read of the file.
pub file_read : (old synced now : Option Told) (into : List ℕ) (count size told : ℕ) (read : JournalFile) → synced ≡ told_synced old → now ≡ synced
    → IfSome synced (λ d. told ≡ length d.now.bytes) → IfSome now (λ d. take count into ≡ take (length into) (drop 0 d.now.bytes))
    → count ≤ length into → length into ≡ size → size ≡ min told 67371012 → read.bytes.items ≡ take count into
    → ((count < size) × (read.length ≡ count)) ⊎ ((size ≤ count) × (read.length ≡ told)) → IfSome old (λ d. IsReadOf d.now.bytes read)
file_read None synced now into count size told read a b tells reads bound room limit kept shown = tt
file_read (Some d) synced now into count size told read a b tells reads bound room limit kept shown =
    let told_is : told ≡ length d.now.bytes = subst (λ (o : Option Told). IfSome o (λ d. told ≡ length d.now.bytes)) a tells in
    let here : take count into ≡ take (length into) d.now.bytes =
    subst (λ (o : Option Told). IfSome o (λ d. take count into ≡ take (length into) (drop 0 d.now.bytes))) (b ∙ a) reads in
    let whole : count ≡ size = counted d.now.bytes here told_is in
    record {
      front = kept ∙ here ∙ ap (λ (n : ℕ). take n d.now.bytes) room ∙ up_to d.now.bytes told_is;
      size = named shown whole ∙ told_is;
    }
  where
    counted : (bytes : List ℕ) → take count into ≡ take (length into) bytes → told ≡ length bytes → count ≡ size
    counted bytes here told_is = omega (arith, ap length here, length-take-le count into bound, length-take (length into) bytes, room, limit, told_is)

    up_to : (bytes : List ℕ) → told ≡ length bytes → take size bytes ≡ take 67371012 bytes
    up_to bytes told_is = ap (λ (n : ℕ). take n bytes) {x = size} {y = min 67371012 (length bytes)} (omega (arith, limit, told_is)) ∙ take_min 67371012 bytes

    named : ((count < size) × (read.length ≡ count)) ⊎ ((size ≤ count) × (read.length ≡ told)) → count ≡ size → read.length ≡ told
    named (inl (less, is)) whole = absurd (omega (arith, less, whole))
    named (inr (all, is)) whole = is
