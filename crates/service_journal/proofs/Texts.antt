-- The texts of entries, and which entries they are the texts of.
use Rattle.std.proofs.Common.{◌≡◌, ℕ, ◌+◌, List, [], ◌∷◌, ◌++◌, length, refl, sym, ◌∙◌, ap, arith}
use Rattle.std.specs.Prelude.{Some}
use Rattle.std.specs.List.{AllByRecursion}
use Rattle.std.proofs.lemmas.List.{map-append}
use Rattle.entry_texts.proofs.Says.{text_back}
use Rattle.entry_texts.specs.Exact.{IsExactEntry}
use Rattle.entry_texts.specs.Reading.{entry_of}
use Rattle.entry_texts.specs.Written.{entry_text}
use Rattle.grant_journal.proofs.Finding.{size-push}
use Rattle.grant_journal.proofs.Finding.{journal_size as gate_more}
use Rattle.grant_journal.proofs.Unique.{one_list}
use Rattle.grant_journal.specs.JournalBytes.{journal_bytes}
use Rattle.links.specs.declared.entry.Entry.{Entry}
use Rattle.service_journal.specs.Journals.{texts_of, journal_size, StandsForEntries}

-- exact entries of one text are one
pub one_entry : (e f : Entry) → IsExactEntry e → IsExactEntry f → entry_text e ≡ entry_text f → e ≡ f
one_entry e f a b same = let told : Some e ≡ Some f = sym (text_back e a) ∙ ap entry_of same ∙ text_back f b in cc told

pub same_entries : (xs ys : List Entry) → AllByRecursion IsExactEntry xs → AllByRecursion IsExactEntry ys → texts_of xs ≡ texts_of ys → xs ≡ ys
same_entries [] [] a b is = refl
same_entries [] (y ∷ ys) a b is = absurd (cc is)
same_entries (x ∷ xs) [] a b is = absurd (cc is)
same_entries (x ∷ xs) (y ∷ ys) a b is =
    let first : entry_text x ≡ entry_text y = cc is in
    let rest : texts_of xs ≡ texts_of ys = cc is in
    let one = one_entry x y a.0 b.0 first in
    let more = same_entries xs ys a.1 b.1 rest in
    (λ i. one i ∷ more i)

-- where texts go on from those of exact entries, the exact entries that they are of do
pub split : (front all : List Entry) (more : List (List ℕ)) → AllByRecursion IsExactEntry front → AllByRecursion IsExactEntry all
    → texts_of all ≡ texts_of front ++ more → (rest : List Entry) × (all ≡ front ++ rest) × (more ≡ texts_of rest)
split [] all more a b is = (all, refl, sym is)
split (x ∷ xs) [] more a b is = absurd (cc is)
split (x ∷ xs) (y ∷ ys) more a b is =
    let first : entry_text y ≡ entry_text x = cc is in
    let rest : texts_of ys ≡ texts_of xs ++ more = cc is in
    let one = one_entry y x b.0 a.0 first in
    let next = split xs ys more a.1 b.1 rest in
    (next.0, (λ i. one i ∷ next.1 i), next.2)

pub one_journal : (file : List ℕ) (entries others : List Entry) → AllByRecursion IsExactEntry entries → AllByRecursion IsExactEntry others
    → StandsForEntries entries file → StandsForEntries others file → entries ≡ others
one_journal file entries others a b s t = same_entries entries others a b (one_list file (texts_of entries) (texts_of others) s t)

-- an entry more

pub texts-push : (entries : List Entry) (e : Entry) → texts_of (entries ++ e ∷ []) ≡ texts_of entries ++ entry_text e ∷ []
texts-push entries e = map-append entry_text entries (e ∷ [])

pub journal_size-push : (entries : List Entry) (e : Entry) → journal_size (entries ++ e ∷ []) ≡ journal_size entries + (5 + length (entry_text e))
journal_size-push entries e =
    let texts = texts_of entries in
    let text = entry_text e in
    let one : length (journal_bytes (texts ++ text ∷ [])) ≡ length (journal_bytes texts) + (5 + length text) =
    omega (arith, gate_more (texts ++ text ∷ []), gate_more texts, size-push texts text) in
    ap (λ (l : List (List ℕ)). length (journal_bytes l)) (texts-push entries e) ∙ one
