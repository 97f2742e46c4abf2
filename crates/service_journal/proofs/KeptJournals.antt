-- Journals that a disk may hold: an entry more, and an entry within.
use Rattle.std.proofs.Common.{◌≡◌, ◌≤◌, ℕ, ◌+◌, List, [], ◌∷◌, ◌++◌, length, refl, sym, ◌∙◌, ap, subst, arith, nat_le, length-append}
use Rattle.std.specs.Prelude.{Bool, true, false, ◌&&◌}
use Rattle.std.specs.List.{AllByRecursion}
use Rattle.std.proofs.lemmas.Bool.{leb-true}
use Rattle.std.proofs.lemmas.List.{map-append}
use Rattle.entry_texts.proofs.Says.{entry_formed}
use Rattle.entry_texts.specs.Exact.{IsExactEntry}
use Rattle.entry_texts.specs.Written.{entry_text}
use Rattle.grant_journal.proofs.Finding.{opened-append}
use Rattle.grant_journal.proofs.Finding.{journal_size as gate_more}
use Rattle.grant_journal.specs.JournalBytes.{before_gate, four_bytes, journal_bytes, opened}
use Rattle.links.proofs.Replays.{lawful-last}
use Rattle.links.specs.Licence.{Licensed, LawfulFrom}
use Rattle.links.specs.State.{Content, start_of, after, state_after, content_of}
use Rattle.links.specs.declared.entry.Entry.{Entry}
use Rattle.service_config.specs.declared.config.Config.{Config}
use Rattle.service_journal.specs.Journals.{texts_of, journal_size, fits_behind, IsShort, IsKept}
use Rattle.service_journal.proofs.Texts.{journal_size-push}

-- ---- an entry more

all-last : (P : Entry → Type 0) (xs : List Entry) (e : Entry) → AllByRecursion P xs → P e → AllByRecursion P (xs ++ e ∷ [])
all-last P [] e all last = (last, tt)
all-last P (x ∷ xs) e all last = (all.0, all-last P xs e all.1 last)

pub kept_none : (config : Config) → IsKept config []
kept_none config = record { lawful = tt; exact = tt; short = tt; within = omega arith }

pub kept_more : (config : Config) (entries : List Entry) (e : Entry) → IsKept config entries → IsExactEntry e → Licensed (content_of config entries) e
    → IsShort e → journal_size entries + (5 + length (entry_text e)) ≤ 67108864 → IsKept config (entries ++ e ∷ [])
kept_more config entries e kept exact licensed short room = record {
  lawful = lawful-last (start_of config) entries e kept.lawful (entry_formed e exact) licensed;
  exact = all-last IsExactEntry entries e kept.exact exact;
  short = all-last IsShort entries e kept.short short;
  within = subst (λ (n : ℕ). n ≤ 67108864) (sym (journal_size-push entries e)) room;
}

both_true : (a b : Bool) → a && b ≡ true → (a ≡ true) × (b ≡ true)
both_true true b is = (refl, is)
both_true false b is = absurd (cc is)

pub kept_fits : (config : Config) (entries : List Entry) (e : Entry) → IsKept config entries → IsExactEntry e → Licensed (content_of config entries) e
    → fits_behind (journal_size entries) e ≡ true → IsKept config (entries ++ e ∷ [])
kept_fits config entries e kept exact licensed fits =
    let size = length (entry_text e) in
    let tests = both_true (nat_le size 262144) (nat_le (journal_size entries + (5 + size)) 67108864) fits in
    kept_more config entries e kept exact licensed (leb-true size 262144 tests.0) (leb-true (journal_size entries + (5 + size)) 67108864 tests.1)

-- ---- an entry within

all_there : (P : Entry → Type 0) (xs : List Entry) (e : Entry) (ys : List Entry) → AllByRecursion P (xs ++ e ∷ ys) → P e
all_there P [] e ys all = all.0
all_there P (x ∷ xs) e ys all = all_there P xs e ys all.1

lawful_there : (c : Content) (xs : List Entry) (e : Entry) (ys : List Entry) → LawfulFrom c (xs ++ e ∷ ys) → Licensed (state_after c xs) e
lawful_there c [] e ys lawful = lawful.0.1
lawful_there c (x ∷ xs) e ys lawful = lawful_there (after c x) xs e ys lawful.1

-- An entry of such a journal, behind these.
pub record Stands (config : Config) (front : List Entry) (e : Entry) : Type 0 where
  pub exact : IsExactEntry e
  pub short : IsShort e
  pub licensed : Licensed (content_of config front) e
  pub room : length (before_gate (texts_of front)) + (5 + length (entry_text e)) + 1 ≤ 67108864

pub texts-split : (front : List Entry) (e : Entry) (rest : List Entry) → texts_of (front ++ e ∷ rest) ≡ texts_of front ++ entry_text e ∷ texts_of rest
texts-split front e rest = map-append entry_text front (e ∷ rest)

pub kept_there : (config : Config) (front : List Entry) (e : Entry) (rest : List Entry) → IsKept config (front ++ e ∷ rest) → Stands config front e
kept_there config front e rest kept = record {
  exact = all_there IsExactEntry front e rest kept.exact;
  short = all_there IsShort front e rest kept.short;
  licensed = lawful_there (start_of config) front e rest kept.lawful;
  room = room (texts_of front) (entry_text e) (texts_of rest) (subst (λ (l : List (List ℕ)). length (journal_bytes l) ≤ 67108864) (texts-split front e rest) kept.within);
}
  where
    sizes : (texts : List (List ℕ)) (front text more : List ℕ) (all : ℕ) → length (before_gate texts) ≡ 8 + length front → all ≡ 8 + length (front ++ 1 ∷ (four_bytes (length text) ++ (text ++ more))) + 1
        → all ≤ 67108864 → length (before_gate texts) + (5 + length text) + 1 ≤ 67108864
    sizes texts front text more all size whole within =
        omega (arith, size, whole, within, length-append front (1 ∷ (four_bytes (length text) ++ (text ++ more))), length-append text more)

    room : (texts : List (List ℕ)) (text : List ℕ) (more : List (List ℕ)) → length (journal_bytes (texts ++ text ∷ more)) ≤ 67108864
        → length (before_gate texts) + (5 + length text) + 1 ≤ 67108864
    room texts text more within =
        let all : length (opened (texts ++ text ∷ more)) ≡ length (opened texts ++ opened (text ∷ more)) = ap length (opened-append texts (text ∷ more)) in
        sizes texts (opened texts) text (opened more) _ (omega arith) (omega (arith, gate_more (texts ++ text ∷ more), all)) within

-- how many entries there were
pub count_after : (c : Content) (es : List Entry) → (state_after c es).count ≡ c.count + length es
count_after c [] = omega arith
count_after c (e ∷ es) = count_after (after c e) es ∙ omega arith
