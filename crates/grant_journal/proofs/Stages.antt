-- How an append goes on, call by call.
use Rattle.std.proofs.Common.{◌≡◌, ◌≢◌, inl, inr, ℕ, ◌+◌, ◌-◌, ◌≤◌, List, [], ◌∷◌, ◌++◌, length, drop, refl, sym, ap, ◌∙◌, subst, arith}
use Rattle.std.specs.Prelude.{Option, None, Some, Result, Ok, Err, OnOk, OnErr}
use Rattle.wif_base.specs.Disk.{Held, Told, EachImage, LeavesOnly, Leaves, Torn, overwritten, with_range, after_write, after_sync, next, told_written, told_synced, FailsWrite}
use Rattle.wif_base.proofs.Images.{torn, written-torn, synced}
use Rattle.wif_base.proofs.Moments.{starts, steps}
use Rattle.grant_journal.specs.JournalBytes.{framed, before_gate, IsBeforeOrAfter, Rests, Settled}
use Rattle.grant_journal.proofs.Crash.{fits, torn_behind, written_behind, torn_gate, written_gate, either_gate, gate-push, length-gate}

module _ (texts : List (List ℕ)) (text : List ℕ) (len : ℕ) where
  abbrev P : List ℕ → Type 0
  P = IsBeforeOrAfter texts text

  B : List ℕ
  B = before_gate texts

  -- nothing is pending, and behind a closed gate stands the record
  record Staged (held : Held) : Type 0 where
    gate : ℕ
    closed : gate ≢ 1
    rest : List ℕ
    file : held.bytes ≡ before_gate texts ++ gate ∷ (framed text ++ rest)
    pending : held.pending ≡ []
    synced : held.synced ≡ length held.bytes

  at_rest : (held : Held) → Rests texts len held → EachImage P held
  at_rest held s image left = inl (s.stands.0, s.stands.1, synced held s.pending s.synced image left ∙ s.stands.2, s.stands.3)

  -- the first write, whole or torn
  behind : (held : Held) (size : ℕ) (bytes : List ℕ) → Rests texts len held → Torn len size held.bytes bytes → EachImage P (with_range held len size bytes)
  behind held size bytes s read image left =
      let g = s.stands.0 in
      let rest = s.stands.1 in
      let inside : len ≤ length held.bytes = omega (arith, s.len_is, ap length s.stands.2, fits (before_gate texts) g rest) in
      let t : Torn len size held.bytes image = torn held.bytes held len size s.pending s.synced bytes inside read image left in
      let u : Torn (length (before_gate texts) + 1) size (before_gate texts ++ g ∷ rest) image =
      subst (λ (k : ℕ). Torn k size (before_gate texts ++ g ∷ rest) image) s.len_is (subst (λ (f : List ℕ). Torn len size f image) s.stands.2 t) in
      inl (g, drop (length (before_gate texts) + 1) image, torn_behind (before_gate texts) g rest size image u, s.stands.3)

  staged : (held : Held) → Rests texts len held → Staged (after_sync (after_write held len (framed text)))
  staged held s =
      let g = s.stands.0 in
      let rest = s.stands.1 in
      record {
        gate = g;
        closed = s.stands.3;
        rest = drop (length (before_gate texts) + 1 + length (framed text)) (before_gate texts ++ g ∷ rest);
        file = ap (λ (f : List ℕ). overwritten f len (framed text)) s.stands.2
            ∙ ap (λ (k : ℕ). overwritten (before_gate texts ++ g ∷ rest) k (framed text)) s.len_is
            ∙ written_behind (before_gate texts) g rest (framed text);
        pending = refl;
        synced = refl;
      }

  at_staged : (held : Held) → Staged held → EachImage P held
  at_staged held s image left = inl (s.gate, framed text ++ s.rest, synced held s.pending s.synced image left ∙ s.file, s.closed)

  -- the second write, whole or torn
  gate : (held : Held) (at : ℕ) (bytes : List ℕ) → at ≡ length (before_gate texts) → Staged held → Torn at 1 held.bytes bytes
      → EachImage P (with_range held at 1 bytes)
  gate held at bytes is s read image left =
      let inside : at ≤ length held.bytes = omega (arith, is, ap length s.file, fits (before_gate texts) s.gate (framed text ++ s.rest)) in
      let t : Torn at 1 held.bytes image = torn held.bytes held at 1 s.pending s.synced bytes inside read image left in
      let u : Torn (length (before_gate texts)) 1 (before_gate texts ++ s.gate ∷ (framed text ++ s.rest)) image =
      subst (λ (k : ℕ). Torn k 1 (before_gate texts ++ s.gate ∷ (framed text ++ s.rest)) image) is (subst (λ (f : List ℕ). Torn at 1 f image) s.file t) in
      either_gate texts text _ s.rest image (torn_gate (before_gate texts) s.gate (framed text ++ s.rest) image u)

  settles : (held : Held) (at : ℕ) → at ≡ length (before_gate texts) → len ≡ at + 1 → Staged held
      → Rests (texts ++ text ∷ []) (len + length (framed text)) (after_sync (after_write held at (1 ∷ [])))
  settles held at is after s = record {
    stands = (
      0,
      s.rest,
      ap (λ (f : List ℕ). overwritten f at (1 ∷ [])) s.file
          ∙ ap (λ (k : ℕ). overwritten (before_gate texts ++ s.gate ∷ (framed text ++ s.rest)) k (1 ∷ [])) is
          ∙ written_gate (before_gate texts) s.gate (framed text ++ s.rest)
          ∙ gate-push texts text s.rest,
      λ e. omega arith,
    );
    len_is = omega (arith, is, after, length-gate texts text);
    pending = refl;
    synced = refl;
  }

  -- The moments of an append, from call to call.

  one : (t : Told) → Rests texts len t.now → LeavesOnly t (next t (after_write t.now len (framed text))) P
  one t s =
      let inside : len ≤ length t.now.bytes = omega (arith, s.len_is, ap length s.stands.2, fits (before_gate texts) s.stands.0 s.stands.1) in
      steps t t _ P (starts t P (at_rest t.now s)) (behind t.now (length (framed text)) _ s (written-torn t.now.bytes len (framed text) inside))

  -- the record is on the disk, and the gate is closed
  abbrev put : Told → Told
  put t = next (next t (after_write t.now len (framed text))) (after_sync (after_write t.now len (framed text)))

  two : (t : Told) → Rests texts len t.now → LeavesOnly t (put t) P
  two t s = steps t _ _ P (one t s) (at_staged _ (staged t.now s))

  before_len : (held : Held) → Rests texts len held → len - 1 ≡ length (before_gate texts)
  before_len held s = omega (arith, s.len_is)

  three : (t : Told) (bytes : List ℕ) → Rests texts len t.now → Torn (len - 1) 1 (put t).now.bytes bytes
      → LeavesOnly t (next (put t) (with_range (put t).now (len - 1) 1 bytes)) P
  three t bytes s read = steps t (put t) _ P (two t s) (gate (put t).now (len - 1) bytes (before_len t.now s) (staged t.now s) read)

  gate_inside : (t : Told) → Rests texts len t.now → len - 1 ≤ length (put t).now.bytes
  gate_inside t s =
      let at_gate = staged t.now s in
      omega (arith, before_len t.now s, ap length at_gate.file, fits (before_gate texts) at_gate.gate (framed text ++ at_gate.rest))

  three_whole : (t : Told) → Rests texts len t.now → LeavesOnly t (next (put t) (after_write (put t).now (len - 1) (1 ∷ []))) P
  three_whole t s = three t _ s (written-torn (put t).now.bytes (len - 1) (1 ∷ []) (gate_inside t s))

  end : (t : Told) → Rests texts len t.now → Rests (texts ++ text ∷ []) (len + length (framed text)) (after_sync (after_write (put t).now (len - 1) (1 ∷ [])))
  end t s = settles (put t).now (len - 1) (before_len t.now s) (omega (arith, s.len_is)) (staged t.now s)

  at_end : (held : Held) (n : ℕ) → Rests (texts ++ text ∷ []) n held → EachImage P held
  at_end held n s image left = inr (s.stands.0, s.stands.1, synced held s.pending s.synced image left ∙ s.stands.2, s.stands.3)

  four : (t : Told) → Rests texts len t.now
      → LeavesOnly t (next (next (put t) (after_write (put t).now (len - 1) (1 ∷ []))) (after_sync (after_write (put t).now (len - 1) (1 ∷ [])))) P
  four t s = steps t _ _ P (three_whole t s) (at_end _ _ (end t s))

  -- The same over what may not be told, by the equations that the calls give.

  pub write_failed : (old new : Option Told) (size : ℕ) → Settled texts len old → FailsWrite old len size new → Leaves old new P
  write_failed None new size s fails = fails
  write_failed (Some t) new size s (inl same) = (t, same, starts t P (at_rest t.now s))
  write_failed (Some t) new size s (inr (bytes, read, is)) = (_, is, steps t t _ P (starts t P (at_rest t.now s)) (behind t.now size bytes s read))

  pub written : (old new : Option Told) → Settled texts len old → new ≡ told_written old len (framed text) → Leaves old new P
  written None new s is = is
  written (Some t) new s is = (_, is, one t s)

  abbrev pub told_put : Option Told → Option Told
  told_put old = told_synced (told_written old len (framed text))

  pub gate_failed : (old mid new : Option Told) → Settled texts len old → mid ≡ told_put old → FailsWrite mid (len - 1) 1 new → Leaves old new P
  gate_failed old mid new s is fails = goes old s (subst (λ m. FailsWrite m (len - 1) 1 new) is fails)
    where
      goes : (old : Option Told) → Settled texts len old → FailsWrite (told_put old) (len - 1) 1 new → Leaves old new P
      goes None s fails = fails
      goes (Some t) s (inl same) = (_, same, two t s)
      goes (Some t) s (inr (bytes, read, is)) = (_, is, three t bytes s read)

  pub ends : {A E : Type 0} (old mid new : Option Told) (result : Result A E) → Settled texts len old → mid ≡ told_written (told_put old) (len - 1) (1 ∷ [])
      → OnOk result (new ≡ told_synced mid) → OnErr result (new ≡ mid) → Leaves old new P
  ends None mid new (Ok x) s is ok err = ok ∙ ap told_synced is
  ends None mid new (Err e) s is ok err = err ∙ is
  ends (Some t) mid new (Ok x) s is ok err = (_, ok ∙ ap told_synced is, four t s)
  ends (Some t) mid new (Err e) s is ok err = (_, err ∙ is, three_whole t s)

  pub stored : {A E : Type 0} (old mid new : Option Told) (result : Result A E) (more : ℕ) → more ≡ length (framed text) → Settled texts len old
      → mid ≡ told_written (told_put old) (len - 1) (1 ∷ [])
      → OnOk result (new ≡ told_synced mid) → OnOk result (Settled (texts ++ text ∷ []) (len + more) new)
  stored None mid new (Ok x) more size s is ok = subst (λ m. Settled (texts ++ text ∷ []) (len + more) m) (sym (ok ∙ ap told_synced is)) tt
  stored (Some t) mid new (Ok x) more size s is ok = subst (λ m. Settled (texts ++ text ∷ []) (len + more) m) (sym (ok ∙ ap told_synced is))
      (subst (λ (k : ℕ). Rests (texts ++ text ∷ []) (len + k) (after_sync (after_write (put t).now (len - 1) (1 ∷ [])))) (sym size) (end t s))
  stored old mid new (Err e) more size s is ok = tt

  pub unchanged : (told : Option Told) → Settled texts len told → Leaves told told P
  unchanged None s = refl
  unchanged (Some t) s = (t, refl, starts t P (at_rest t.now s))
