-- What stands in a file at a place, and how each list that the file may stand for goes on there.
use Rattle.std.proofs.Common.{◌≡◌, ◌≢◌, ◌<◌, ◌≤◌, inl, inr, ℕ, ◌+◌, ◌-◌, ◌/◌, ◌%◌, List, [], ◌∷◌, ◌++◌, length, get_or, take, drop, refl, sym, ◌∙◌, ap, arith, append_assoc, length-append, take-append-drop}
use Rattle.std.proofs.lemmas.List.{take_at, drop_at, drop_more, drop-drop, get_or-drop, length-drop, take-append-le, take-take}
use Rattle.grant_journal.specs.JournalBytes.{four_bytes, opened, marker, before_gate, journal_bytes, StandsFor}
use Rattle.grant_journal.specs.Places.{HasMarker, IsBehind, IsClosedAt, IsRecordAt, number_at, PassesEnd, IsTooLongAt, BreaksAt, PassesLimit}
use Rattle.grant_journal.specs.declared.rule.JournalRule.{JournalRule}
use Rattle.grant_journal.specs.declared.rule.JournalRule.TheVariants.{J1, J2, J3, J4, J5}
use Rattle.grant_journal.proofs.Crash.{opened-push}
use Rattle.grant_journal.proofs.Unique.{same_size, same_front, same_back, one_list}

-- The bytes at a place.

pub byte_at : (file : List ℕ) (at g : ℕ) (rest : List ℕ) → drop at file ≡ g ∷ rest → get_or file at 0 ≡ g
byte_at file at g rest is = ap (λ (k : ℕ). get_or file k 0) {x = at} {y = at + 0} (omega arith) ∙ sym (get_or-drop at file 0 0)
    ∙ ap (λ (l : List ℕ). get_or l 0 0) is

pub room : (file : List ℕ) (at : ℕ) (piece : List ℕ) → drop at file ≡ piece → length piece ≡ length file - at
room file at piece is = ap length (sym is) ∙ length-drop at file

pub record_there : (file : List ℕ) (at : ℕ) (text : List ℕ) → IsRecordAt file at text
    → drop at file ≡ 1 ∷ (four_bytes (length text) ++ (text ++ drop (at + (5 + length text)) file))
record_there file at text is =
    sym (take-append-drop (5 + length text) (drop at file)) ∙ ap (λ (l : List ℕ). l ++ drop (5 + length text) (drop at file)) is
    ∙ append_assoc (1 ∷ four_bytes (length text)) text (drop (5 + length text) (drop at file))
    ∙ ap (λ (l : List ℕ). 1 ∷ (four_bytes (length text) ++ (text ++ l))) (drop-drop (5 + length text) at file)

pub record_from : (file : List ℕ) (at : ℕ) (text rest : List ℕ) → drop at file ≡ 1 ∷ (four_bytes (length text) ++ (text ++ rest)) → IsRecordAt file at text
record_from file at text rest is =
    ap (λ (l : List ℕ). take (5 + length text) l) (is ∙ sym (append_assoc (1 ∷ four_bytes (length text)) text rest))
    ∙ take_at (1 ∷ (four_bytes (length text) ++ text)) rest (5 + length text) (omega arith)

-- the number that four bytes tell is the one that they were written for
pub number_there : (file : List ℕ) (at n : ℕ) (rest : List ℕ) → drop at file ≡ 1 ∷ (four_bytes n ++ rest) → number_at file (at + 1) ≡ n
number_there file at n rest is =
    let a : get_or file (at + 1) 0 ≡ n / 16777216 = digit 1 (at + 1) refl in
    let b : get_or file (at + 1 + 1) 0 ≡ n / 65536 % 256 = digit 2 (at + 1 + 1) (omega arith) in
    let c : get_or file (at + 1 + 2) 0 ≡ n / 256 % 256 = digit 3 (at + 1 + 2) (omega arith) in
    let d : get_or file (at + 1 + 3) 0 ≡ n % 256 = digit 4 (at + 1 + 3) (omega arith) in
    omega (arith, a, b, c, d)
  where
    digit : (k place : ℕ) → place ≡ at + k → get_or file place 0 ≡ get_or (1 ∷ (four_bytes n ++ rest)) k 0
    digit k place here =
        ap (λ (i : ℕ). get_or file i 0) here ∙ sym (get_or-drop at file k 0) ∙ ap (λ (l : List ℕ). get_or l k 0) is

-- Fronts of lists.

-- Where a file begins with whole records, each list that it stands for does too.
pub front_in : (xs ys : List (List ℕ)) (a : List ℕ) (g : ℕ) (r : List ℕ) → g ≢ 1 → opened xs ++ a ≡ opened ys ++ g ∷ r
    → (more : List (List ℕ)) × (ys ≡ xs ++ more) × (a ≡ opened more ++ g ∷ r)
front_in [] ys a g r shut e = (ys, refl, e)
front_in (x ∷ xs) [] a g r shut e = absurd (shut (ap (λ (l : List ℕ). get_or l 0 0) (sym e)))
front_in (x ∷ xs) (y ∷ ys) a g r shut e =
    let size : length x ≡ length y = same_size (length x) (length y) (ap (λ (l : List ℕ). take 4 (drop 1 l)) e) in
    let rest : x ++ (opened xs ++ a) ≡ y ++ (opened ys ++ g ∷ r) =
    sym (append_assoc x (opened xs) a) ∙ ap (λ (l : List ℕ). drop 5 l) e ∙ append_assoc y (opened ys) (g ∷ r) in
    let one : x ≡ y = same_front x _ y _ size rest in
    let more = front_in xs ys a g r shut (same_back x _ y _ size rest) in
    (more.0, (λ i. sym one i ∷ more.1 i), more.2)

pub opened-append : (xs ys : List (List ℕ)) → opened (xs ++ ys) ≡ opened xs ++ opened ys
opened-append [] ys = refl
opened-append (x ∷ xs) ys =
    ap (λ (l : List ℕ). 1 ∷ (four_bytes (length x) ++ (x ++ l))) (opened-append xs ys)
    ∙ ap (λ (l : List ℕ). 1 ∷ (four_bytes (length x) ++ l)) (sym (append_assoc x (opened xs) (opened ys)))

before_gate-append : (xs ys : List (List ℕ)) (rest : List ℕ) → before_gate (xs ++ ys) ++ rest ≡ before_gate xs ++ (opened ys ++ rest)
before_gate-append xs ys rest =
    ap (λ (l : List ℕ). (marker ++ l) ++ rest) (opened-append xs ys) ∙ ap (λ (l : List ℕ). marker ++ l) (append_assoc (opened xs) (opened ys) rest)

-- A place behind whole records.

pub behind_split : (texts : List (List ℕ)) (at : ℕ) (file : List ℕ) → IsBehind texts at file → file ≡ before_gate texts ++ drop at file
behind_split texts at file b = sym (take-append-drop at file) ∙ ap (λ (l : List ℕ). l ++ drop at file) b.front

pub behind_join : (texts : List (List ℕ)) (at : ℕ) (file rest : List ℕ) → file ≡ before_gate texts ++ rest → at ≡ length (before_gate texts)
    → IsBehind texts at file
behind_join texts at file rest is place = record {
  place = place;
  front = ap (λ (l : List ℕ). take at l) is ∙ take_at (before_gate texts) rest at (sym place);
}

behind_rest : (texts : List (List ℕ)) (file rest : List ℕ) → file ≡ before_gate texts ++ rest → drop (length (before_gate texts)) file ≡ rest
behind_rest texts file rest is = ap (λ (l : List ℕ). drop (length (before_gate texts)) l) is
    ∙ drop_at (before_gate texts) rest (length (before_gate texts)) refl

size-more : (texts more : List (List ℕ)) (text : List ℕ)
    → length (before_gate (texts ++ text ∷ more)) ≡ length (before_gate texts) + (5 + length text) + length (opened more)
size-more texts more text = sizes (opened (texts ++ text ∷ more)) (opened texts) text (opened more) (ap length (opened-append texts (text ∷ more)))
  where
    sizes : (a b text more : List ℕ) → length a ≡ length (b ++ 1 ∷ (four_bytes (length text) ++ (text ++ more)))
        → length (marker ++ a) ≡ length (marker ++ b) + (5 + length text) + length more
    sizes a b text more e = omega (arith, length-append b (1 ∷ (four_bytes (length text) ++ (text ++ more))), length-append text more, e)

pub journal_size : (texts : List (List ℕ)) → length (journal_bytes texts) ≡ length (before_gate texts) + 1
journal_size texts = length-append (before_gate texts) (0 ∷ [])

pub size-push : (texts : List (List ℕ)) (text : List ℕ) → length (before_gate (texts ++ text ∷ [])) ≡ length (before_gate texts) + (5 + length text)
size-push texts text = omega (arith, size-more texts [] text)

pub behind_more : (file text : List ℕ) (texts : List (List ℕ)) (at : ℕ) → IsBehind texts at file → IsRecordAt file at text
    → IsBehind (texts ++ text ∷ []) (at + (5 + length text)) file
behind_more file text texts at b is =
    let next = drop (at + (5 + length text)) file in
    behind_join (texts ++ text ∷ []) (at + (5 + length text)) file next
    (
    behind_split texts at file b ∙ ap (λ (l : List ℕ). before_gate texts ++ l) (record_there file at text is)
    ∙ ap (λ (l : List ℕ). marker ++ l) (sym (opened-push texts text next))
    )
    (omega (arith, b.place, size-push texts text))

pub behind_closed : (file : List ℕ) (texts : List (List ℕ)) (at : ℕ) → IsBehind texts at file → IsClosedAt file at → StandsFor texts file
behind_closed file texts at b shut =
    (get_or file at 0, drop (at + 1) file, behind_split texts at file b ∙ ap (λ (l : List ℕ). before_gate texts ++ l) (drop_more file at 0 shut.0), shut.1)

-- What a file that stands for a list shows.

pub marker_there : (file : List ℕ) (texts : List (List ℕ)) → StandsFor texts file → HasMarker file
marker_there file texts s = ap (λ (l : List ℕ). take 8 l) s.2

pub front_there : (file : List ℕ) (texts more : List (List ℕ)) → StandsFor (texts ++ more) file → IsBehind texts (length (before_gate texts)) file
front_there file texts more s = behind_join texts _ file (opened more ++ s.0 ∷ s.1) (s.2 ∙ before_gate-append texts more (s.0 ∷ s.1)) refl

next_there : (file text : List ℕ) (texts more : List (List ℕ)) (rest : List ℕ) → file ≡ before_gate (texts ++ text ∷ more) ++ rest
    → IsRecordAt file (length (before_gate texts)) text
next_there file text texts more rest is =
    record_from file (length (before_gate texts)) text (opened more ++ rest)
    (
    behind_rest texts file (opened (text ∷ more) ++ rest) (is ∙ before_gate-append texts (text ∷ more) rest)
    ∙ ap (λ (l : List ℕ). 1 ∷ (four_bytes (length text) ++ l)) (append_assoc text (opened more) rest)
    )

pub text_there : (file text : List ℕ) (texts more : List (List ℕ)) → StandsFor (texts ++ text ∷ more) file → IsRecordAt file (length (before_gate texts)) text
text_there file text texts more s = next_there file text texts more (s.0 ∷ s.1) s.2

pub gate_there : (file : List ℕ) (texts : List (List ℕ)) → StandsFor texts file → IsClosedAt file (length (before_gate texts))
gate_there file texts s =
    let is = behind_rest texts file (s.0 ∷ s.1) s.2 in
    (omega (arith, room file (length (before_gate texts)) _ is), λ one. s.3 (sym (byte_at file _ s.0 s.1 is) ∙ one))

-- How each list goes on behind whole records.

pub goes_on : (file : List ℕ) (texts all : List (List ℕ)) (at : ℕ) → IsBehind texts at file → (s : StandsFor all file)
    → (more : List (List ℕ)) × (all ≡ texts ++ more) × (drop at file ≡ opened more ++ s.0 ∷ s.1)
goes_on file texts all at b s =
    front_in texts all (drop at file) s.0 s.1 s.3 (ap (λ (l : List ℕ). drop 8 l) (sym (behind_split texts at file b) ∙ s.2))

-- the open gate has a text of the list behind it
pub open_there : (file : List ℕ) (texts all : List (List ℕ)) (at : ℕ) → IsBehind texts at file → StandsFor all file → get_or file at 0 ≡ 1
    → (text : List ℕ) × (more : List (List ℕ)) × (all ≡ texts ++ text ∷ more) × IsRecordAt file at text
open_there file texts all at b s one = goes (goes_on file texts all at b s)
  where
    goes : (more : List (List ℕ)) × (all ≡ texts ++ more) × (drop at file ≡ opened more ++ s.0 ∷ s.1)
        → (text : List ℕ) × (more : List (List ℕ)) × (all ≡ texts ++ text ∷ more) × IsRecordAt file at text
    goes ([], whole, is) = absurd (s.3 (sym (byte_at file at s.0 s.1 is) ∙ one))
    goes (t ∷ ts, whole, is) =
        let here = is ∙ ap (λ (l : List ℕ). 1 ∷ (four_bytes (length t) ++ l)) (append_assoc t (opened ts) (s.0 ∷ s.1)) in
        (t, ts, whole, record_from file at t (opened ts ++ s.0 ∷ s.1) here)

pub one_text : (file text other : List ℕ) (at : ℕ) → IsRecordAt file at text → IsRecordAt file at other → text ≡ other
one_text file text other at a b =
    let e = sym (record_there file at text a) ∙ record_there file at other b in
    same_front text _ other _ (same_size (length text) (length other) (ap (λ (l : List ℕ). take 4 (drop 1 l)) e)) (ap (λ (l : List ℕ). drop 5 l) e)

-- a record has an open gate, tells its length, and ends within the file
pub record_facts : (file text : List ℕ) (at : ℕ) → IsRecordAt file at text
    → (get_or file at 0 ≡ 1) × (number_at file (at + 1) ≡ length text) × (at + (5 + length text) ≤ length file)
record_facts file text at is =
    let rest = drop (at + (5 + length text)) file in
    let there = record_there file at text is in
    (byte_at file at 1 _ there, number_there file at (length text) (text ++ rest) there, sizes text rest (room file at _ there))
  where
    sizes : (text rest : List ℕ) → length (1 ∷ (four_bytes (length text) ++ (text ++ rest))) ≡ length file - at → at + (5 + length text) ≤ length file
    sizes text rest e = omega (arith, length-append text rest, e)

pub next_text : (file text : List ℕ) (texts all : List (List ℕ)) (at : ℕ) → IsBehind texts at file → IsRecordAt file at text → StandsFor all file
    → (more : List (List ℕ)) × (all ≡ texts ++ text ∷ more)
next_text file text texts all at b is s =
    let o = open_there file texts all at b s (record_facts file text at is).0 in
    (o.1, o.2 ∙ ap (λ (t : List ℕ). texts ++ t ∷ o.1) (one_text file o.0 text at o.3 is))

pub no_end : (file : List ℕ) (texts all : List (List ℕ)) (at : ℕ) → IsBehind texts at file → PassesEnd file at → StandsFor all file → ⊥
no_end file texts all at b (inl past) s = nothing (goes_on file texts all at b s)
  where
    nothing : (more : List (List ℕ)) × (all ≡ texts ++ more) × (drop at file ≡ opened more ++ s.0 ∷ s.1) → ⊥
    nothing (more, whole, is) = omega (arith, past, room file at _ is, length-append (opened more) (s.0 ∷ s.1))
no_end file texts all at b (inr (one, past)) s =
    let o = open_there file texts all at b s one in
    let f = record_facts file o.0 at o.3 in
    omega (arith, past, f.1, f.2)

pub too_long : (file : List ℕ) (texts all : List (List ℕ)) (at : ℕ) → IsBehind texts at file → IsTooLongAt file at → StandsFor all file
    → (text : List ℕ) × (more : List (List ℕ)) × (all ≡ texts ++ text ∷ more) × (262144 < length text)
too_long file texts all at b long s =
    let o = open_there file texts all at b s long.open_gate in
    let f = record_facts file o.0 at o.3 in
    (o.0, o.1, o.2, omega (arith, long.long, f.1))

pub past_limit : (file text : List ℕ) (texts all : List (List ℕ)) (at : ℕ) → IsBehind texts at file → IsRecordAt file at text
    → PassesLimit (at + (5 + length text)) → StandsFor all file → 67108864 < length (journal_bytes all)
past_limit file text texts all at b is past s =
    let n = next_text file text texts all at b is s in
    omega (arith, past, b.place, journal_size all, ap (λ (l : List (List ℕ)). length (before_gate l)) n.1, size-more texts n.0 text)

-- One thing stands at a place.

pub closed_no_text : (file text : List ℕ) (at : ℕ) → IsClosedAt file at → IsRecordAt file at text → ⊥
closed_no_text file text at shut is = shut.1 (record_facts file text at is).0

pub closed_not_bad : (file : List ℕ) (at : ℕ) (rule : JournalRule) → IsClosedAt file at → BreaksAt file at rule → ⊥
closed_not_bad file at J1 shut bad = bad
closed_not_bad file at J2 shut (inl past) = omega (arith, past, shut.0)
closed_not_bad file at J2 shut (inr (one, past)) = shut.1 one
closed_not_bad file at J3 shut bad = shut.1 bad.open_gate
closed_not_bad file at J4 shut bad = bad
closed_not_bad file at J5 shut bad = bad

pub text_not_bad : (file text : List ℕ) (at : ℕ) (rule : JournalRule) → IsRecordAt file at text → length text ≤ 262144 → BreaksAt file at rule → ⊥
text_not_bad file text at J1 is short bad = bad
text_not_bad file text at J2 is short (inl past) = let f = record_facts file text at is in omega (arith, past, f.2)
text_not_bad file text at J2 is short (inr (one, past)) = let f = record_facts file text at is in omega (arith, past, f.1, f.2)
text_not_bad file text at J3 is short bad = let f = record_facts file text at is in omega (arith, bad.long, f.1, short)
text_not_bad file text at J4 is short bad = bad
text_not_bad file text at J5 is short bad = bad

end_or_long : (file : List ℕ) (at : ℕ) → PassesEnd file at → IsTooLongAt file at → ⊥
end_or_long file at (inl past) long = omega (arith, past, long.inside)
end_or_long file at (inr (one, past)) long = omega (arith, past, long.inside)

pub one_rule : (file : List ℕ) (at : ℕ) (rule other : JournalRule) → BreaksAt file at rule → BreaksAt file at other → rule ≡ other
one_rule file at J1 other a b = absurd a
one_rule file at J2 J1 a b = absurd b
one_rule file at J2 J2 a b = refl
one_rule file at J2 J3 a b = absurd (end_or_long file at a b)
one_rule file at J2 J4 a b = absurd b
one_rule file at J2 J5 a b = absurd b
one_rule file at J3 J1 a b = absurd b
one_rule file at J3 J2 a b = absurd (end_or_long file at b a)
one_rule file at J3 J3 a b = refl
one_rule file at J3 J4 a b = absurd b
one_rule file at J3 J5 a b = absurd b
one_rule file at J4 other a b = absurd a
one_rule file at J5 other a b = absurd a

-- One list stands in front of a place.

pub one_front : (file : List ℕ) (texts others : List (List ℕ)) (at : ℕ) → IsBehind texts at file → IsBehind others at file → texts ≡ others
one_front file texts others at a b =
    let same : before_gate texts ≡ before_gate others = sym a.front ∙ b.front in
    one_list (journal_bytes texts) texts others (0, [], refl, λ e. omega arith) (0, [], ap (λ (l : List ℕ). l ++ 0 ∷ []) same, λ e. omega arith)

pub longer_front : (file : List ℕ) (texts others : List (List ℕ)) (at place : ℕ) → IsBehind texts at file → IsBehind others place file → at ≤ place
    → (more : List (List ℕ)) × (others ≡ texts ++ more)
longer_front file texts others at place a b le =
    let whole : StandsFor others (before_gate others ++ 0 ∷ []) = (0, [], refl, λ e. omega arith) in
    let inside : IsBehind texts at (before_gate others ++ 0 ∷ []) = record {
      place = a.place;
      front = take-append-le at (before_gate others) (0 ∷ []) (omega (arith, le, b.place))
          ∙ ap (λ (l : List ℕ). take at l) (sym b.front) ∙ take-take at place file le ∙ a.front;
    } in
    let more = goes_on _ texts others at inside whole in
    (more.0, more.1)

pub text_in_front : (file text : List ℕ) (texts more : List (List ℕ)) (place : ℕ) → IsBehind (texts ++ text ∷ more) place file
    → IsRecordAt file (length (before_gate texts)) text
text_in_front file text texts more place b = next_there file text texts more (drop place file) (behind_split (texts ++ text ∷ more) place file b)

pub behind_size : (file : List ℕ) (texts : List (List ℕ)) (at : ℕ) → IsBehind texts at file → length (journal_bytes texts) ≡ at + 1
behind_size file texts at b = omega (arith, journal_size texts, b.place)
