-- The fact of a ghost field, and the one with a gate and a rest.
use Rattle.std.proofs.Common.{◌≡◌, ◌+◌, ◌-◌, ◌≤◌, ℕ, List, [], ◌∷◌, ◌++◌, length, take, drop, get_or, refl, sym, ap, ◌∙◌, subst, arith, length-append, take-append-drop}
use Rattle.std.proofs.lemmas.List.{take_at, drop_more, get_or-append_right}
use Rattle.std.specs.Prelude.{Option, None, Some}
use Rattle.std.specs.Option.{ForSome}
use Rattle.wif_base.specs.Disk.{Held, Told, Range}
use Rattle.grant_journal.specs.JournalBytes.{before_gate, Rests, Settled}
use Rattle.grant_journal.specs.Whole.{Whole}

none_left : (ranges : List Range) → length ranges ≡ 0 → ranges ≡ []
none_left [] size = refl
none_left (r ∷ ranges) size = absurd (omega arith)

pub to_rests : (texts : List (List ℕ)) (len : ℕ) (held : Held) → Whole texts len held → Rests texts len held
to_rests texts len held w = record {
  stands = (
    get_or held.bytes (len - 1) 0,
    drop (len - 1 + 1) held.bytes,
    sym (take-append-drop (len - 1) held.bytes) ∙ ap (λ (l : List ℕ). l ++ drop (len - 1) held.bytes) w.front
        ∙ ap (λ (l : List ℕ). before_gate texts ++ l) (drop_more held.bytes (len - 1) 0 (omega (arith, w.inside, w.len_is))),
    w.closed,
  );
  len_is = w.len_is;
  pending = none_left held.pending w.pending;
  synced = w.synced;
}

facts : (B : List ℕ) (g : ℕ) (rest file : List ℕ) (n : ℕ) → file ≡ B ++ g ∷ rest → n ≡ length B
    → (take n file ≡ B) × (n + 1 ≤ length file) × (get_or file n 0 ≡ g)
facts B g rest file n is size = (
  ap (λ (l : List ℕ). take n l) is ∙ take_at B (g ∷ rest) n (sym size),
  omega (arith, ap length is, length-append B (g ∷ rest), size),
  ap (λ (l : List ℕ). get_or l n 0) is ∙ get_or-append_right B (g ∷ rest) (length B) n 0 refl (omega (arith, size))
      ∙ ap (λ (k : ℕ). get_or (g ∷ rest) k 0) {y = 0} (omega (arith, size)),
)

pub to_whole : (texts : List (List ℕ)) (len : ℕ) (held : Held) → Rests texts len held → Whole texts len held
to_whole texts len held r =
    let f = facts (before_gate texts) r.stands.0 r.stands.1 held.bytes (len - 1) r.stands.2 (omega (arith, r.len_is)) in
    record {
      front = f.0;
      inside = omega (arith, f.1, r.len_is);
      len_is = r.len_is;
      closed = λ one. r.stands.3 (sym f.2 ∙ one);
      pending = ap length r.pending;
      synced = r.synced;
    }

-- where the disk tells

pub settled : (texts : List (List ℕ)) (len : ℕ) (told : Option Told) → ForSome told (λ t. Whole texts len t.now) → Settled texts len told
settled texts len None w = tt
settled texts len (Some t) w = to_rests texts len t.now (w t refl)

pub whole : (texts : List (List ℕ)) (len : ℕ) (told : Option Told) → Settled texts len told → ForSome told (λ t. Whole texts len t.now)
whole texts len told s = λ t is. to_whole texts len t.now (subst (λ (o : Option Told). Settled texts len o) is s)
