-- A file is refused for one record by one rule, and stands then for no journal that a disk may hold.
use Rattle.std.proofs.Common.{◌≡◌, ◌⊎◌, ◌<◌, ◌≤◌, inl, inr, ℕ, ◌+◌, List, [], ◌∷◌, ◌++◌, length, take, refl, sym, ◌∙◌, ap, subst, arith}
use Rattle.std.specs.Prelude.{None, Some}
use Rattle.std.proofs.lemmas.Bool.{cases_lt}
use Rattle.std.proofs.lemmas.List.{append-nil, take-take}
use Rattle.entry_texts.proofs.Says.{text_back}
use Rattle.entry_texts.specs.Reading.{entry_of}
use Rattle.entry_texts.specs.Written.{entry_text}
use Rattle.grant_journal.proofs.Finding.{closed_no_text, closed_not_bad, gate_there, goes_on, longer_front, marker_there, one_front, record_facts, text_in_front, text_not_bad, text_there}
use Rattle.grant_journal.proofs.Finding.{one_text as one_record}
use Rattle.grant_journal.specs.JournalBytes.{before_gate, StandsFor}
use Rattle.grant_journal.specs.Places.{HasMarker, IsBehind, IsClosedAt, IsRecordAt, PassesEnd, IsTooLongAt}
use Rattle.grant_journal.specs.declared.rule.JournalRule.{JournalRule}
use Rattle.grant_journal.specs.declared.rule.JournalRule.TheVariants.{J1, J2, J3, J4, J5}
use Rattle.links.specs.Licence.{Licensed}
use Rattle.links.specs.State.{Content, content_of}
use Rattle.links.specs.declared.entry.Entry.{Entry}
use Rattle.service_config.specs.declared.config.Config.{Config}
use Rattle.service_journal.specs.Journals.{texts_of, IsKept, StandsForEntries}
use Rattle.service_journal.specs.Opening.{IsEntryAt, IsNoEntryAt, BreaksFirst, IsBadBehind, IsRefusedAt}
use Rattle.service_journal.proofs.KeptJournals.{kept_there, texts-split}
use Rattle.service_journal.proofs.Texts.{one_entry, same_entries, split}

-- ---- one thing stands at a place

past_no_record : (file text : List ℕ) (at : ℕ) → IsRecordAt file at text → PassesEnd file at → ⊥
past_no_record file text at is (inl past) = let f = record_facts file text at is in omega (arith, past, f.2)
past_no_record file text at is (inr (one, past)) = let f = record_facts file text at is in omega (arith, past, f.1, f.2)

no_entry : (file : List ℕ) (at : ℕ) (e : Entry) → IsEntryAt file at e → IsNoEntryAt file at → ⊥
no_entry file at e there none =
    let same : none.text ≡ entry_text e = one_record file none.text (entry_text e) at none.stands there.stands in
    let told : None ≡ Some e = sym none.none ∙ ap entry_of same ∙ text_back e there.exact in
    cc told

same_entry : (file : List ℕ) (at : ℕ) (e f : Entry) → IsEntryAt file at e → IsEntryAt file at f → e ≡ f
same_entry file at e f a b = one_entry e f a.exact b.exact (one_record file (entry_text e) (entry_text f) at a.stands b.stands)

past_or_text : (file : List ℕ) (at : ℕ) → PassesEnd file at → IsTooLongAt file at ⊎ IsNoEntryAt file at → ⊥
past_or_text file at (inl past) (inl long) = omega (arith, past, long.inside)
past_or_text file at (inr (one, past)) (inl long) = omega (arith, past, long.inside)
past_or_text file at past (inr none) = past_no_record file none.text at none.stands past

text_or_entry : (file : List ℕ) (at : ℕ) (e : Entry) → IsTooLongAt file at ⊎ IsNoEntryAt file at → IsEntryAt file at e → ⊥
text_or_entry file at e (inl long) there = text_not_bad file (entry_text e) at J3 there.stands there.short long
text_or_entry file at e (inr none) there = no_entry file at e there none

free_or_not : (content : Content) (file : List ℕ) (at : ℕ) (e f : Entry) → IsEntryAt file at e → (Licensed content e → ⊥) → IsEntryAt file at f
    → Licensed content f → ⊥
free_or_not content file at e f is forbids there free = forbids (subst (λ (x : Entry). Licensed content x) (same_entry file at f e there is) free)

-- a good entry breaks no rule
good_not_bad : (content : Content) (file : List ℕ) (at : ℕ) (rule : JournalRule) (e : Entry) → IsEntryAt file at e → Licensed content e
    → at + (5 + length (entry_text e)) + 1 ≤ 67108864 → BreaksFirst content file at rule → ⊥
good_not_bad content file at J1 e there licensed room bad = bad
good_not_bad content file at J2 e there licensed room bad = past_no_record file (entry_text e) at there.stands bad
good_not_bad content file at J3 e there licensed room bad = text_or_entry file at e bad there
good_not_bad content file at J4 e there licensed room bad = free_or_not content file at bad.0 e bad.1 bad.2 there licensed
good_not_bad content file at J5 e there licensed room (f, is, free, past) =
    let size : length (entry_text e) ≡ length (entry_text f) = ap (λ (x : Entry). length (entry_text x)) (same_entry file at e f there is) in
    omega (arith, room, past, size)

-- nor does a closed gate
shut_not_bad : (content : Content) (file : List ℕ) (at : ℕ) (rule : JournalRule) → IsClosedAt file at → BreaksFirst content file at rule → ⊥
shut_not_bad content file at J1 shut bad = bad
shut_not_bad content file at J2 shut bad = closed_not_bad file at J2 shut bad
shut_not_bad content file at J3 shut (inl long) = closed_not_bad file at J3 shut long
shut_not_bad content file at J3 shut (inr none) = closed_no_text file none.text at shut none.stands
shut_not_bad content file at J4 shut (e, is, forbids) = closed_no_text file (entry_text e) at shut is.stands
shut_not_bad content file at J5 shut (e, is, free, past) = closed_no_text file (entry_text e) at shut is.stands

-- one rule is broken first

one_breach : (content : Content) (file : List ℕ) (at : ℕ) (rule other : JournalRule) → BreaksFirst content file at rule → BreaksFirst content file at other
    → rule ≡ other
one_breach content file at J1 other a b = absurd a
one_breach content file at J2 J1 a b = absurd b
one_breach content file at J2 J2 a b = refl
one_breach content file at J2 J3 a b = absurd (past_or_text file at a b)
one_breach content file at J2 J4 a b = absurd (past_no_record file (entry_text b.0) at b.1.stands a)
one_breach content file at J2 J5 a b = absurd (past_no_record file (entry_text b.0) at b.1.stands a)
one_breach content file at J3 J1 a b = absurd b
one_breach content file at J3 J2 a b = absurd (past_or_text file at b a)
one_breach content file at J3 J3 a b = refl
one_breach content file at J3 J4 a b = absurd (text_or_entry file at b.0 a b.1)
one_breach content file at J3 J5 a b = absurd (text_or_entry file at b.0 a b.1)
one_breach content file at J4 J1 a b = absurd b
one_breach content file at J4 J2 a b = absurd (past_no_record file (entry_text a.0) at a.1.stands b)
one_breach content file at J4 J3 a b = absurd (text_or_entry file at a.0 b a.1)
one_breach content file at J4 J4 a b = refl
one_breach content file at J4 J5 a b = absurd (free_or_not content file at a.0 b.0 a.1 a.2 b.1 b.2)
one_breach content file at J5 J1 a b = absurd b
one_breach content file at J5 J2 a b = absurd (past_no_record file (entry_text a.0) at a.1.stands b)
one_breach content file at J5 J3 a b = absurd (text_or_entry file at a.0 b a.1)
one_breach content file at J5 J4 a b = absurd (free_or_not content file at b.0 a.0 b.1 b.2 a.1 a.2)
one_breach content file at J5 J5 a b = refl

-- ---- what goes on behind the entries in front of a bad record

goes_no_further : (config : Config) (file : List ℕ) (at : ℕ) (rule : JournalRule) (front : List Entry) (e : Entry) (rest : List Entry)
    → IsBehind (texts_of front) at file → BreaksFirst (content_of config front) file at rule → IsKept config (front ++ e ∷ rest)
    → IsRecordAt file (length (before_gate (texts_of front))) (entry_text e) → ⊥
goes_no_further config file at rule front e rest behind bad kept is =
    let there = kept_there config front e rest kept in
    good_not_bad (content_of config front) file at rule e
    (record { stands = subst (λ (n : ℕ). IsRecordAt file n (entry_text e)) (sym behind.place) is; exact = there.exact; short = there.short })
    there.licensed (omega (arith, there.room, behind.place)) bad

module _ (config : Config) (file : List ℕ) (at : ℕ) (rule : JournalRule) (a : IsBadBehind config file at rule) where
  bad_no_journal : (entries : List Entry) → IsKept config entries → StandsForEntries entries file → ⊥
  bad_no_journal entries kept s =
      let more = goes_on file (texts_of a.entries) (texts_of entries) at a.front s in
      let rest = split a.entries entries more.0 a.kept.exact kept.exact more.1 in
      goes rest.0 (subst (λ (l : List Entry). IsKept config l) rest.1 kept) (subst (λ (l : List Entry). StandsForEntries l file) rest.1 s)
    where
      goes : (rest : List Entry) → IsKept config (a.entries ++ rest) → StandsForEntries (a.entries ++ rest) file → ⊥
      goes [] kept s =
          let shut = gate_there file (texts_of a.entries) (subst (λ (l : List Entry). StandsForEntries l file) (append-nil a.entries) s) in
          shut_not_bad (content_of config a.entries) file at rule (subst (λ (n : ℕ). IsClosedAt file n) (sym a.front.place) shut) a.bad
      goes (e ∷ rest) kept s =
          goes_no_further config file at rule a.entries e rest a.front a.bad kept
          (text_there file (entry_text e) (texts_of a.entries) (texts_of rest)
          (subst (λ (l : List (List ℕ)). StandsFor l file) (texts-split a.entries e rest) s))

  not_farther : (place : ℕ) (other : JournalRule) → IsBadBehind config file place other → at < place → ⊥
  not_farther place other b below =
      let more = longer_front file (texts_of a.entries) (texts_of b.entries) at place a.front b.front (omega (arith, below)) in
      let rest = split a.entries b.entries more.0 a.kept.exact b.kept.exact more.1 in
      goes rest.0 (subst (λ (l : List Entry). IsKept config l) rest.1 b.kept) (subst (λ (l : List Entry). IsBehind (texts_of l) place file) rest.1 b.front)
    where
      goes : (rest : List Entry) → IsKept config (a.entries ++ rest) → IsBehind (texts_of (a.entries ++ rest)) place file → ⊥
      goes [] kept behind =
          let size : length (before_gate (texts_of (a.entries ++ []))) ≡ length (before_gate (texts_of a.entries)) =
          ap (λ (l : List Entry). length (before_gate (texts_of l))) (append-nil a.entries) in
          omega (arith, below, behind.place, a.front.place, size)
      goes (e ∷ rest) kept behind =
          goes_no_further config file at rule a.entries e rest a.front a.bad kept
          (text_in_front file (entry_text e) (texts_of a.entries) (texts_of rest) place
          (subst (λ (l : List (List ℕ)). IsBehind l place file) (texts-split a.entries e rest) behind))

  same_rule : (other : JournalRule) → IsBadBehind config file at other → rule ≡ other
  same_rule other b =
      let same = same_entries b.entries a.entries b.kept.exact a.kept.exact (one_front file (texts_of b.entries) (texts_of a.entries) at b.front a.front) in
      one_breach (content_of config a.entries) file at rule other a.bad
      (subst (λ (l : List Entry). BreaksFirst (content_of config l) file at other) same b.bad)

one_bad : (config : Config) (file : List ℕ) (at place : ℕ) (rule other : JournalRule) → IsBadBehind config file at rule → IsBadBehind config file place other
    → (at ≡ place) × (rule ≡ other)
one_bad config file at place rule other a b = elim (cases_lt at place) [
  | inl below ↦ absurd (not_farther config file at rule a place other b below)
  | inr le ↦ elim (cases_lt place at) [
    | inl above ↦ absurd (not_farther config file place other b at rule a above)
    | inr ge ↦
        let same : at ≡ place = omega (arith, le, ge) in
        (same, same_rule config file at rule a other (subst (λ (n : ℕ). IsBadBehind config file n other) (sym same) b))
  ]
]

-- ---- the laws

-- whatever stands behind whole records, the marker is there
marker_in_front : (texts : List (List ℕ)) (at : ℕ) (file : List ℕ) → IsBehind texts at file → HasMarker file
marker_in_front texts at file behind =
    sym (take-take 8 at file (omega (arith, behind.place))) ∙ ap (λ (l : List ℕ). take 8 l) behind.front

pub refused_no_journal : (config : Config) (file : List ℕ) (at : ℕ) (rule : JournalRule) → IsRefusedAt config file at rule
    → (entries : List Entry) → IsKept config entries → StandsForEntries entries file → ⊥
refused_no_journal config file at J1 refused entries kept s = refused.1 (marker_there file (texts_of entries) s)
refused_no_journal config file at J2 refused entries kept s = bad_no_journal config file at J2 refused entries kept s
refused_no_journal config file at J3 refused entries kept s = bad_no_journal config file at J3 refused entries kept s
refused_no_journal config file at J4 refused entries kept s = bad_no_journal config file at J4 refused entries kept s
refused_no_journal config file at J5 refused entries kept s = bad_no_journal config file at J5 refused entries kept s

-- a refusal is that of the marker, or that of a record
abbrev Shown : Config → List ℕ → ℕ → JournalRule → Type 0
Shown config file at rule = ((at ≡ 0) × (rule ≡ J1) × (HasMarker file → ⊥)) ⊎ IsBadBehind config file at rule

shown : (config : Config) (file : List ℕ) (at : ℕ) (rule : JournalRule) → IsRefusedAt config file at rule → Shown config file at rule
shown config file at J1 refused = inl (refused.0, refl, refused.1)
shown config file at J2 refused = inr refused
shown config file at J3 refused = inr refused
shown config file at J4 refused = inr refused
shown config file at J5 refused = inr refused

pub one_refusal : (config : Config) (file : List ℕ) (at place : ℕ) (rule other : JournalRule) → IsRefusedAt config file at rule
    → IsRefusedAt config file place other → (at ≡ place) × (rule ≡ other)
one_refusal config file at place rule other a b = goes (shown config file at rule a) (shown config file place other b)
  where
    goes : Shown config file at rule → Shown config file place other → (at ≡ place) × (rule ≡ other)
    goes (inl (start, one, none)) (inl (begin, two, never)) = (start ∙ sym begin, one ∙ sym two)
    goes (inl (start, one, none)) (inr bad) = absurd (none (marker_in_front (texts_of bad.entries) place file bad.front))
    goes (inr bad) (inl (begin, two, never)) = absurd (never (marker_in_front (texts_of bad.entries) at file bad.front))
    goes (inr a) (inr b) = one_bad config file at place rule other a b
