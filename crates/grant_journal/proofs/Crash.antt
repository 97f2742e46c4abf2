-- What a crash leaves in each of the two steps of an append, as facts about lists of bytes.
use Rattle.std.proofs.Common.{◌≡◌, inl, inr, ℕ, ◌+◌, ◌≤◌, List, [], ◌∷◌, ◌++◌, length, get_or, take, drop, refl, sym, ◌∙◌, ap, arith, append_assoc, length-append, take-append-drop}
use Rattle.std.proofs.lemmas.Bool.{cases_eq}
use Rattle.std.proofs.lemmas.List.{take_at, drop_at, drop_more}
use Rattle.wif_base.specs.Disk.{Torn, overwritten}
use Rattle.grant_journal.specs.JournalBytes.{four_bytes, framed, opened, marker, before_gate, IsBeforeOrAfter}

pub opened-push : (texts : List (List ℕ)) (text rest : List ℕ)
    → opened (texts ++ text ∷ []) ++ rest ≡ opened texts ++ 1 ∷ (four_bytes (length text) ++ (text ++ rest))
opened-push [] text rest = ap (λ (l : List ℕ). 1 ∷ (four_bytes (length text) ++ l)) (append_assoc text [] rest)
opened-push (t ∷ texts) text rest =
    ap (λ (l : List ℕ). 1 ∷ (four_bytes (length t) ++ l)) (
    append_assoc t (opened (texts ++ text ∷ [])) rest ∙ ap (λ (l : List ℕ). t ++ l) (opened-push texts text rest)
    ∙ sym (append_assoc t (opened texts) (1 ∷ (four_bytes (length text) ++ (text ++ rest))))
    )

-- an open gate before a record makes it one more
pub gate-push : (texts : List (List ℕ)) (text rest : List ℕ) → before_gate texts ++ 1 ∷ (framed text ++ rest) ≡ before_gate (texts ++ text ∷ []) ++ 0 ∷ rest
gate-push texts text rest =
    ap (λ (l : List ℕ). marker ++ (opened texts ++ 1 ∷ (four_bytes (length text) ++ l))) (append_assoc text (0 ∷ []) rest)
    ∙ ap (λ (l : List ℕ). marker ++ l) (sym (opened-push texts text (0 ∷ rest)))

-- a file: what stands before a gate, the gate, and the rest
module _ (B : List ℕ) (g : ℕ) (rest : List ℕ) where
  size : length (B ++ g ∷ rest) ≡ length B + 1 + length rest
  size = omega (arith, length-append B (g ∷ rest))

  front : take (length B + 1) (B ++ g ∷ rest) ≡ B ++ g ∷ []
  front = ap (take (length B + 1)) (sym (append_assoc B (g ∷ []) rest)) ∙ take_at (B ++ g ∷ []) rest (length B + 1) (omega (arith, length-append B (g ∷ [])))

  back : drop (length B + 1) (B ++ g ∷ rest) ≡ rest
  back = ap (drop (length B + 1)) (sym (append_assoc B (g ∷ []) rest)) ∙ drop_at (B ++ g ∷ []) rest (length B + 1) (omega (arith, length-append B (g ∷ [])))

  pub fits : length B + 1 ≤ length (B ++ g ∷ rest)
  fits = omega (arith, size)

  -- whatever is written behind the gate, the gate stays as it is
  pub torn_behind : (n : ℕ) (c : List ℕ) → Torn (length B + 1) n (B ++ g ∷ rest) c → c ≡ B ++ g ∷ drop (length B + 1) c
  torn_behind n c torn =
      sym (take-append-drop (length B + 1) c) ∙ ap (λ (l : List ℕ). l ++ drop (length B + 1) c) (torn.before ∙ front)
      ∙ append_assoc B (g ∷ []) (drop (length B + 1) c)

  pub written_behind : (p : List ℕ) → overwritten (B ++ g ∷ rest) (length B + 1) p ≡ B ++ g ∷ (p ++ drop (length B + 1 + length p) (B ++ g ∷ rest))
  written_behind p =
      let after = drop (length B + 1 + length p) (B ++ g ∷ rest) in
      ap (λ (l : List ℕ). l ++ (p ++ after)) front ∙ append_assoc B (g ∷ []) (p ++ after)

  -- only the gate may have changed
  pub torn_gate : (c : List ℕ) → Torn (length B) 1 (B ++ g ∷ rest) c → c ≡ B ++ get_or c (length B) 0 ∷ rest
  torn_gate c torn =
      let tail : drop (length B) c ≡ get_or c (length B) 0 ∷ rest = drop_more c (length B) 0 (omega (arith, torn.no_shorter, size))
      ∙ ap (λ (l : List ℕ). get_or c (length B) 0 ∷ l) (torn.behind ∙ back) in
      sym (take-append-drop (length B) c) ∙ ap (λ (l : List ℕ). l ++ drop (length B) c) (torn.before ∙ take_at B (g ∷ rest) (length B) refl)
      ∙ ap (λ (l : List ℕ). B ++ l) tail

  pub written_gate : overwritten (B ++ g ∷ rest) (length B) (1 ∷ []) ≡ B ++ 1 ∷ rest
  written_gate =
      ap (λ (l : List ℕ). l ++ 1 ∷ drop (length B + 1) (B ++ g ∷ rest)) (take_at B (g ∷ rest) (length B) refl) ∙ ap (λ (l : List ℕ). B ++ 1 ∷ l) back

-- a record behind any gate counts or it doesn't
pub either_gate : (texts : List (List ℕ)) (text : List ℕ) (gate : ℕ) (rest c : List ℕ) → c ≡ before_gate texts ++ gate ∷ (framed text ++ rest)
    → IsBeforeOrAfter texts text c
either_gate texts text gate rest c is = elim (cases_eq gate 1) [
  | inl one ↦ inr (0, rest, is ∙ ap (λ (g : ℕ). before_gate texts ++ g ∷ (framed text ++ rest)) one ∙ gate-push texts text rest, λ e. omega arith)
  | inr shut ↦ inl (gate, framed text ++ rest, is, shut)
]

pub length-gate : (texts : List (List ℕ)) (text : List ℕ) → length (before_gate (texts ++ text ∷ [])) ≡ length (before_gate texts) + length (framed text)
length-gate texts text =
    let f = framed text in
    let B = before_gate texts in
    let A = before_gate (texts ++ text ∷ []) in
    let a : length (B ++ 1 ∷ (f ++ [])) ≡ length (A ++ 0 ∷ []) = ap length (gate-push texts text []) in
    sizes B A f a
  where
    sizes : (B A f : List ℕ) → length (B ++ 1 ∷ (f ++ [])) ≡ length (A ++ 0 ∷ []) → length A ≡ length B + length f
    sizes B A f a = omega (arith, length-append B (1 ∷ (f ++ [])), length-append f [], length-append A (0 ∷ []))
