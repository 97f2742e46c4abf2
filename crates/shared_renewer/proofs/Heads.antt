-- The searches find the heads that stand at the front of some bytes, and no others.
use Rattle.std.proofs.Common.{◌≡◌, ◌≤◌, ◌<◌, ◌⊎◌, inl, inr, ℕ, zero, suc, List, [], ◌∷◌, ◌++◌, length, Bool, true, false, ◌||◌, ◌&&◌, ◌==◌, Option, None, Some, refl, sym, ◌∙◌, ap, subst, arith, append_assoc, length-append}
use Rattle.std.proofs.lemmas.Bool.Decides.{nat_tests}
use Rattle.std.proofs.lemmas.List.Sums.{AllPass-from_list_all, list_all-from_AllPass}
use Rattle.std.proofs.lemmas.List.Elements.{All-cons, All-nil}
use Rattle.std.proofs.lemmas.Slice.Eq.{bytes_eq-Decides}
use Rattle.std.specs.Char.{is_ascii_digit}
use Rattle.std.specs.List.{flat_map, list_all}
use Rattle.std.specs.Str.{bytes_eq}
use Rattle.std.specs.Prelude.{All, nat_lt}
use Rattle.httparse.specs.Ascii.{space, colon}
use Rattle.httparse.specs.Grammar.{AllPass, Field, IsField, LineEnd, crlf, lf, is_token, is_token_byte, is_value_byte, print_blank, print_end, print_field, print_reason, print_response, print_section, print_version, reason_phrase, ReadsResponse, ReadsSection, ResponseHead}
use Rattle.httparse.proofs.GrammarLemmas.{print_response-append}
use Rattle.shared_renewer.specs.Searches.{behind, some_blank_lines, begins_field, ends_field, some_cut, some_digits, some_field, some_fields, some_head, some_line_end, some_reason, some_section, some_status_line, some_version}

-- ---- tests

pub both_pass : (a b : Bool) → (a && b) ≡ true → (a ≡ true) × (b ≡ true)
both_pass true b is = (refl, is)
both_pass false b is = cc is

pub passes_both : (a b : Bool) → a ≡ true → b ≡ true → (a && b) ≡ true
passes_both true b x y = y
passes_both false b x y = cc x

pub one_passes : (a b : Bool) → (a || b) ≡ true → (a ≡ true) ⊎ (b ≡ true)
one_passes true b is = inl refl
one_passes false b is = inr is

pub passes_first : (a b : Bool) → a ≡ true → (a || b) ≡ true
passes_first true b x = refl
passes_first false b x = cc x

pub passes_second : (a b : Bool) → b ≡ true → (a || b) ≡ true
passes_second true b x = refl
passes_second false b x = x

-- ---- cuts

abbrev pub Cut : (List ℕ → List ℕ → Bool) → List ℕ → Type 0
Cut passes bytes = (front : List ℕ) × (rest : List ℕ) × (bytes ≡ front ++ rest) × (passes front rest ≡ true)

pub cut_found : (passes : List ℕ → List ℕ → Bool) (bytes : List ℕ) → some_cut passes bytes ≡ true → Cut passes bytes
cut_found passes [] is = ([], [], refl, is)
cut_found passes (b ∷ bytes) is = elim (one_passes (passes [] (b ∷ bytes)) (some_cut (λ front rest. passes (b ∷ front) rest) bytes) is) [
  | inl here ↦ ([], b ∷ bytes, refl, here)
  | inr later ↦ let c = cut_found (λ front rest. passes (b ∷ front) rest) bytes later in (b ∷ c.0, c.1, ap (λ (l : List ℕ). b ∷ l) c.2, c.3)
]

pub cut_there : (passes : List ℕ → List ℕ → Bool) (front rest : List ℕ) → passes front rest ≡ true → some_cut passes (front ++ rest) ≡ true
cut_there passes [] [] is = is
cut_there passes [] (b ∷ rest) is = passes_first (passes [] (b ∷ rest)) (some_cut (λ f r. passes (b ∷ f) r) rest) is
cut_there passes (b ∷ front) rest is =
    passes_second (passes [] (b ∷ (front ++ rest))) (some_cut (λ f r. passes (b ∷ f) r) (front ++ rest)) (cut_there (λ f r. passes (b ∷ f) r) front rest is)

pub behind_found : (first : ℕ) (passes : List ℕ → Bool) (bytes : List ℕ) → behind first passes bytes ≡ true → (rest : List ℕ) × (bytes ≡ first ∷ rest) × (passes rest ≡ true)
behind_found first passes [] is = cc is
behind_found first passes (b ∷ bytes) is =
    let t = both_pass (b == first) (passes bytes) is in
    let same : b ≡ first = grind (arith, nat_tests) in
    (bytes, ap (λ (n : ℕ). n ∷ bytes) same, t.1)

pub behind_there : (first : ℕ) (passes : List ℕ → Bool) (rest : List ℕ) → passes rest ≡ true → behind first passes (first ∷ rest) ≡ true
behind_there first passes rest is =
    let same : (first == first) ≡ true = grind (arith, nat_tests) in
    passes_both (first == first) (passes rest) same is

pub same_bytes : (a b : List ℕ) → bytes_eq a b ≡ true → a ≡ b
same_bytes a b is = (bytes_eq-Decides a b).0 is

pub bytes_same : (a b : List ℕ) → a ≡ b → bytes_eq a b ≡ true
bytes_same a b is = (bytes_eq-Decides a b).1 is

-- ---- line ends

abbrev pub LineEndFound : (LineEnd → List ℕ → Bool) → List ℕ → Type 0
LineEndFound passes bytes = (end : LineEnd) × (rest : List ℕ) × (bytes ≡ print_end end ++ rest) × (passes end rest ≡ true)

pub line_end_found : (passes : LineEnd → List ℕ → Bool) (bytes : List ℕ) → some_line_end passes bytes ≡ true → LineEndFound passes bytes
unfolding some_line_end
line_end_found passes bytes is =
    let c = cut_found _ bytes is in
    elim (one_passes (bytes_eq c.0 (print_end crlf) && passes crlf c.1) (bytes_eq c.0 (print_end lf) && passes lf c.1) c.3) [
      | inl first ↦ let t = both_pass _ _ first in (crlf, c.1, c.2 ∙ ap (λ (l : List ℕ). l ++ c.1) (same_bytes _ _ t.0), t.1)
      | inr second ↦ let t = both_pass _ _ second in (lf, c.1, c.2 ∙ ap (λ (l : List ℕ). l ++ c.1) (same_bytes _ _ t.0), t.1)
    ]

pub line_end_there : (passes : LineEnd → List ℕ → Bool) (end : LineEnd) (rest : List ℕ) → passes end rest ≡ true → some_line_end passes (print_end end ++ rest) ≡ true
unfolding some_line_end
line_end_there passes crlf rest is =
    cut_there (λ front r. (bytes_eq front (print_end crlf) && passes crlf r) || (bytes_eq front (print_end lf) && passes lf r)) (print_end crlf) rest
    (passes_first (bytes_eq (print_end crlf) (print_end crlf) && passes crlf rest) (bytes_eq (print_end crlf) (print_end lf) && passes lf rest)
    (passes_both (bytes_eq (print_end crlf) (print_end crlf)) (passes crlf rest) (bytes_same (print_end crlf) (print_end crlf) refl) is))
line_end_there passes lf rest is =
    cut_there (λ front r. (bytes_eq front (print_end crlf) && passes crlf r) || (bytes_eq front (print_end lf) && passes lf r)) (print_end lf) rest
    (passes_second (bytes_eq (print_end lf) (print_end crlf) && passes crlf rest) (bytes_eq (print_end lf) (print_end lf) && passes lf rest)
    (passes_both (bytes_eq (print_end lf) (print_end lf)) (passes lf rest) (bytes_same (print_end lf) (print_end lf) refl) is))

-- ---- blank lines

pub blank_found : (most : ℕ) (passes : List ℕ → Bool) (bytes : List ℕ) → some_blank_lines most passes bytes ≡ true
    → (ends : List LineEnd) × (rest : List ℕ) × (bytes ≡ print_blank ends ++ rest) × (passes rest ≡ true)
blank_found zero passes bytes is = ([], bytes, refl, is)
blank_found (suc most) passes bytes is = elim (one_passes (passes bytes) (some_line_end (λ end rest. some_blank_lines most passes rest) bytes) is) [
  | inl here ↦ ([], bytes, refl, here)
  | inr later ↦
      let e = line_end_found (λ end rest. some_blank_lines most passes rest) bytes later in
      let r = blank_found most passes e.1 e.3 in
      (e.0 ∷ r.0, r.1, e.2 ∙ ap (λ (l : List ℕ). print_end e.0 ++ l) r.2 ∙ sym (append_assoc (print_end e.0) (print_blank r.0) r.1), r.3)
]

pub blank_there : (most : ℕ) (passes : List ℕ → Bool) (ends : List LineEnd) (rest : List ℕ) → length ends ≤ most → passes rest ≡ true
    → some_blank_lines most passes (print_blank ends ++ rest) ≡ true
blank_there zero passes [] rest room is = is
blank_there zero passes (end ∷ ends) rest room is = absurd (omega arith)
blank_there (suc most) passes [] rest room is = passes_first (passes rest) (some_line_end (λ end r. some_blank_lines most passes r) rest) is
blank_there (suc most) passes (end ∷ ends) rest room is =
    let tail : length ends ≤ most = omega arith in
    let whole = print_blank (end ∷ ends) ++ rest in
    let found : some_line_end (λ e r. some_blank_lines most passes r) whole ≡ true =
    subst (λ (l : List ℕ). some_line_end (λ e r. some_blank_lines most passes r) l ≡ true) (sym (append_assoc (print_end end) (print_blank ends) rest))
    (line_end_there (λ e r. some_blank_lines most passes r) end (print_blank ends ++ rest) (blank_there most passes ends rest tail is)) in
    passes_second (passes whole) (some_line_end (λ e r. some_blank_lines most passes r) whole) found

-- ---- the line of a status

pub version_found : (passes : List ℕ → Bool) (bytes : List ℕ) → some_version passes bytes ≡ true
    → (minor : ℕ) × (minor ≤ 1) × ((rest : List ℕ) × (bytes ≡ print_version minor ++ rest) × (passes rest ≡ true))
unfolding some_version
version_found passes bytes is =
    let c = cut_found _ bytes is in
    let t = both_pass (bytes_eq c.0 (print_version 0) || bytes_eq c.0 (print_version 1)) (passes c.1) c.3 in
    elim (one_passes _ _ t.0) [
      | inl first ↦ (0, omega arith, (c.1, c.2 ∙ ap (λ (l : List ℕ). l ++ c.1) (same_bytes c.0 (print_version 0) first), t.1))
      | inr second ↦ (1, omega arith, (c.1, c.2 ∙ ap (λ (l : List ℕ). l ++ c.1) (same_bytes c.0 (print_version 1) second), t.1))
    ]

pub version_there : (passes : List ℕ → Bool) (minor : ℕ) (rest : List ℕ) → minor ≤ 1 → passes rest ≡ true → some_version passes (print_version minor ++ rest) ≡ true
unfolding some_version
version_there passes zero rest low is =
    cut_there (λ front r. (bytes_eq front (print_version 0) || bytes_eq front (print_version 1)) && passes r) (print_version 0) rest
    (passes_both (bytes_eq (print_version 0) (print_version 0) || bytes_eq (print_version 0) (print_version 1)) (passes rest)
    (passes_first (bytes_eq (print_version 0) (print_version 0)) (bytes_eq (print_version 0) (print_version 1)) (bytes_same (print_version 0) (print_version 0) refl)) is)
version_there passes (suc zero) rest low is =
    cut_there (λ front r. (bytes_eq front (print_version 0) || bytes_eq front (print_version 1)) && passes r) (print_version 1) rest
    (passes_both (bytes_eq (print_version 1) (print_version 0) || bytes_eq (print_version 1) (print_version 1)) (passes rest)
    (passes_second (bytes_eq (print_version 1) (print_version 0)) (bytes_eq (print_version 1) (print_version 1)) (bytes_same (print_version 1) (print_version 1) refl)) is)
version_there passes (suc (suc n)) rest low is = absurd (omega arith)

pub digits_found : (passes : List ℕ → List ℕ → Bool) (bytes : List ℕ) → some_digits passes bytes ≡ true
    → (digits : List ℕ) × (rest : List ℕ) × (bytes ≡ digits ++ rest) × (length digits ≡ 3) × AllPass is_ascii_digit digits × (passes digits rest ≡ true)
unfolding some_digits
digits_found passes bytes is =
    let c = cut_found _ bytes is in
    let t = both_pass ((length c.0 == 3) && list_all is_ascii_digit c.0) (passes c.0 c.1) c.3 in
    let u = both_pass (length c.0 == 3) (list_all is_ascii_digit c.0) t.0 in
    let three : length c.0 ≡ 3 = let x = u.0 in grind (arith, nat_tests) in
    (c.0, c.1, c.2, three, AllPass-from_list_all is_ascii_digit c.0 u.1, t.1)

pub digits_there : (passes : List ℕ → List ℕ → Bool) (digits rest : List ℕ) → length digits ≡ 3 → AllPass is_ascii_digit digits → passes digits rest ≡ true
    → some_digits passes (digits ++ rest) ≡ true
unfolding some_digits
digits_there passes digits rest three all is =
    let t : (length digits == 3) ≡ true = grind (arith, nat_tests) in
    cut_there _ digits rest (passes_both _ _ (passes_both _ _ t (list_all-from_AllPass is_ascii_digit digits all)) is)

pub reason_found : (passes : List ℕ → Bool) (bytes : List ℕ) → some_reason passes bytes ≡ true
    → (reason : Option (List ℕ)) × (rest : List ℕ) × (bytes ≡ print_reason reason ++ rest) × AllPass is_value_byte (reason_phrase reason) × (passes rest ≡ true)
unfolding some_reason
reason_found passes bytes is = elim (one_passes (passes bytes) (behind space (some_cut (λ phrase rest. list_all is_value_byte phrase && passes rest)) bytes) is) [
  | inl here ↦ (None, bytes, refl, AllPass-from_list_all is_value_byte [] refl, here)
  | inr later ↦
      let b = behind_found space (some_cut (λ phrase rest. list_all is_value_byte phrase && passes rest)) bytes later in
      let c = cut_found (λ phrase rest. list_all is_value_byte phrase && passes rest) b.0 b.2 in
      let t = both_pass (list_all is_value_byte c.0) (passes c.1) c.3 in
      (Some c.0, c.1, b.1 ∙ ap (λ (l : List ℕ). space ∷ l) c.2, AllPass-from_list_all is_value_byte c.0 t.0, t.1)
]

pub reason_there : (passes : List ℕ → Bool) (reason : Option (List ℕ)) (rest : List ℕ) → AllPass is_value_byte (reason_phrase reason) → passes rest ≡ true
    → some_reason passes (print_reason reason ++ rest) ≡ true
unfolding some_reason
reason_there passes None rest all is = passes_first (passes rest) _ is
reason_there passes (Some phrase) rest all is =
    passes_second (passes (space ∷ (phrase ++ rest))) _ (behind_there space (some_cut (λ p r. list_all is_value_byte p && passes r)) (phrase ++ rest)
    (cut_there (λ p r. list_all is_value_byte p && passes r) phrase rest (passes_both _ _ (list_all-from_AllPass is_value_byte phrase all) is)))

-- ---- fields

pub field_found : (passes : Field → List ℕ → Bool) (bytes : List ℕ) → some_field passes bytes ≡ true
    → (field : Field) × IsField field × ((rest : List ℕ) × (bytes ≡ print_field field ++ rest) × (passes field rest ≡ true))
unfolding some_field
field_found passes bytes is =
    let c = cut_found (begins_field passes) bytes is in
    let t = both_pass (is_token c.0) (behind colon (some_cut (ends_field passes c.0)) c.1) c.3 in
    let token = both_pass (nat_lt 0 (length c.0)) (list_all is_token_byte c.0) t.0 in
    let b = behind_found colon (some_cut (ends_field passes c.0)) c.1 t.1 in
    let v = cut_found (ends_field passes c.0) b.0 b.2 in
    let u = both_pass (list_all is_value_byte v.0) (some_line_end (λ end rest. passes (record { name = c.0; raw = v.0; end = end }) rest) v.1) v.3 in
    let e = line_end_found (λ end rest. passes (record { name = c.0; raw = v.0; end = end }) rest) v.1 u.1 in
    let some : 0 < length c.0 = let x : nat_lt 0 (length c.0) ≡ true = token.0 in grind (arith, nat_tests) in (
      record { name = c.0; raw = v.0; end = e.0 },
      record { name = (some, AllPass-from_list_all is_token_byte c.0 token.1); raw = AllPass-from_list_all is_value_byte v.0 u.0 },
      (e.1, printed c.0 c.1 b.0 v.0 v.1 e.1 e.0 bytes c.2 b.1 v.2 e.2, e.3),
    )
  where
    printed : (name r0 r1 raw r2 rest : List ℕ) (end : LineEnd) (bytes : List ℕ) → bytes ≡ name ++ r0 → r0 ≡ colon ∷ r1 → r1 ≡ raw ++ r2 → r2 ≡ print_end end ++ rest
        → bytes ≡ (name ++ colon ∷ raw ++ print_end end) ++ rest
    printed name r0 r1 raw r2 rest end bytes x y z w =
        x ∙ ap (λ (l : List ℕ). name ++ l) (y ∙ ap (λ (l : List ℕ). colon ∷ l) (z ∙ ap (λ (l : List ℕ). raw ++ l) w))
        ∙ sym (append_assoc (name ++ colon ∷ raw) (print_end end) rest ∙ append_assoc name (colon ∷ raw) (print_end end ++ rest))

pub field_there : (passes : Field → List ℕ → Bool) (field : Field) (rest : List ℕ) → IsField field → passes field rest ≡ true
    → some_field passes (print_field field ++ rest) ≡ true
unfolding some_field
field_there passes field rest is ok =
    let regroup = append_assoc (field.name ++ colon ∷ field.raw) (print_end field.end) rest ∙ append_assoc field.name (colon ∷ field.raw) (print_end field.end ++ rest) in
    let some : nat_lt 0 (length field.name) ≡ true = let x = is.name.0 in grind (arith, nat_tests) in
    let behind_name = colon ∷ (field.raw ++ (print_end field.end ++ rest)) in
    let ended : some_line_end (λ end r. passes (record { name = field.name; raw = field.raw; end = end }) r) (print_end field.end ++ rest) ≡ true =
    line_end_there (λ end r. passes (record { name = field.name; raw = field.raw; end = end }) r) field.end rest ok in
    let value : some_cut (ends_field passes field.name) (field.raw ++ (print_end field.end ++ rest)) ≡ true =
    cut_there (ends_field passes field.name) field.raw (print_end field.end ++ rest)
    (passes_both (list_all is_value_byte field.raw) (some_line_end (λ end r. passes (record { name = field.name; raw = field.raw; end = end }) r) (print_end field.end ++ rest))
    (list_all-from_AllPass is_value_byte field.raw is.raw) ended) in
    let colons : behind colon (some_cut (ends_field passes field.name)) behind_name ≡ true =
    behind_there colon (some_cut (ends_field passes field.name)) (field.raw ++ (print_end field.end ++ rest)) value in
    let token : is_token field.name ≡ true =
    passes_both (nat_lt 0 (length field.name)) (list_all is_token_byte field.name) some (list_all-from_AllPass is_token_byte field.name is.name.1) in
    subst (λ (l : List ℕ). some_cut (begins_field passes) l ≡ true) (sym regroup)
    (cut_there (begins_field passes) field.name behind_name (passes_both (is_token field.name) (behind colon (some_cut (ends_field passes field.name)) behind_name) token colons))

pub fields_found : (most : ℕ) (passes : List Field → List ℕ → Bool) (bytes : List ℕ) → some_fields most passes bytes ≡ true
    → (fields : List Field) × (length fields ≤ most) × All IsField fields × ((rest : List ℕ) × (bytes ≡ flat_map print_field fields ++ rest) × (passes fields rest ≡ true))
fields_found zero passes bytes is = ([], omega arith, All-nil IsField, (bytes, refl, is))
fields_found (suc most) passes bytes is =
    elim (one_passes (passes [] bytes) (some_field (λ field rest. some_fields most (λ fields others. passes (field ∷ fields) others) rest) bytes) is) [
      | inl here ↦ ([], omega arith, All-nil IsField, (bytes, refl, here))
      | inr later ↦
          let f = field_found (λ field rest. some_fields most (λ fields others. passes (field ∷ fields) others) rest) bytes later in
          let r = fields_found most (λ fields others. passes (f.0 ∷ fields) others) f.2.0 f.2.2 in (
            f.0 ∷ r.0,
            omega (arith, r.1),
            All-cons IsField f.0 r.0 f.1 r.2,
            (
              r.3.0,
              f.2.1 ∙ ap (λ (l : List ℕ). print_field f.0 ++ l) r.3.1 ∙ sym (append_assoc (print_field f.0) (flat_map print_field r.0) r.3.0),
              r.3.2,
            ),
          )
    ]

pub fields_there : (most : ℕ) (passes : List Field → List ℕ → Bool) (fields : List Field) (rest : List ℕ) → length fields ≤ most → All IsField fields
    → passes fields rest ≡ true → some_fields most passes (flat_map print_field fields ++ rest) ≡ true
fields_there zero passes [] rest room all is = is
fields_there zero passes (f ∷ fields) rest room all is = absurd (omega arith)
fields_there (suc most) passes [] rest room all is =
    passes_first (passes [] rest) (some_field (λ field r. some_fields most (λ fs others. passes (field ∷ fs) others) r) rest) is
fields_there (suc most) passes (f ∷ fields) rest room all is =
    let whole = flat_map print_field (f ∷ fields) ++ rest in
    let then : Field → List ℕ → Bool = λ field r. some_fields most (λ fs others. passes (field ∷ fs) others) r in
    let found : some_field then whole ≡ true =
    subst (λ (l : List ℕ). some_field then l ≡ true) (sym (append_assoc (print_field f) (flat_map print_field fields) rest))
    (field_there then f (flat_map print_field fields ++ rest) (All-head IsField f fields all)
    (fields_there most (λ fs others. passes (f ∷ fs) others) fields rest (omega arith) (All-tail IsField f fields all) is)) in
    passes_second (passes [] whole) (some_field then whole) found
  where
    All-head : (P : Field → Type 0) (x : Field) (xs : List Field) → All P (x ∷ xs) → P x
    All-head P x xs a = a 0 x (omega arith)

    All-tail : (P : Field → Type 0) (x : Field) (xs : List Field) → All P (x ∷ xs) → All P xs
    All-tail P x xs a k d small = a (suc k) d (omega arith)

-- ---- sections and lines

pub section_found : (passes : List Field → List ℕ → Bool) (bytes : List ℕ) → some_section passes bytes ≡ true
    → (fields : List Field) × (last : LineEnd) × (rest : List ℕ) × (length fields ≤ 64) × ReadsSection bytes fields last rest × (passes fields rest ≡ true)
unfolding some_section
section_found passes bytes is =
    let f = fields_found 64 (λ fields. some_line_end (λ last rest. passes fields rest)) bytes is in
    let l = line_end_found (λ last rest. passes f.0 rest) f.3.0 f.3.2 in
    (f.0, l.0, l.1, f.1, (f.2, printed (flat_map print_field f.0) f.3.0 l.1 l.0 bytes f.3.1 l.2), l.3)
  where
    printed : (front r0 rest : List ℕ) (last : LineEnd) (bytes : List ℕ) → bytes ≡ front ++ r0 → r0 ≡ print_end last ++ rest → bytes ≡ (front ++ print_end last) ++ rest
    printed front r0 rest last bytes x y = x ∙ ap (λ (l : List ℕ). front ++ l) y ∙ sym (append_assoc front (print_end last) rest)

pub section_there : (passes : List Field → List ℕ → Bool) (fields : List Field) (last : LineEnd) (rest : List ℕ) → All IsField fields → length fields ≤ 64
    → passes fields rest ≡ true → some_section passes (print_section fields last ++ rest) ≡ true
unfolding some_section
section_there passes fields last rest all room ok =
    subst (λ (x : List ℕ). some_fields 64 (λ fs. some_line_end (λ l r. passes fs r)) x ≡ true) (sym (append_assoc (flat_map print_field fields) (print_end last) rest))
    (fields_there 64 (λ fs. some_line_end (λ l r. passes fs r)) fields (print_end last ++ rest) room all (line_end_there (λ l r. passes fields r) last rest ok))

-- the line of a status
pub record StatusLine (bytes : List ℕ) (minor : ℕ) (digits : List ℕ) (reason : Option (List ℕ)) (end : LineEnd) (rest : List ℕ) : Type 0 where
  pub low : minor ≤ 1
  pub three : length digits ≡ 3
  pub all : AllPass is_ascii_digit digits
  pub phrase : AllPass is_value_byte (reason_phrase reason)
  pub whole : bytes ≡ print_version minor ++ (32 ∷ (digits ++ (print_reason reason ++ (print_end end ++ rest))))

pub line_found : (passes : List ℕ → List ℕ → Bool) (bytes : List ℕ) → some_status_line passes bytes ≡ true
    → (minor : ℕ) × (digits : List ℕ) × (reason : Option (List ℕ)) × (end : LineEnd) × ((rest : List ℕ) × StatusLine bytes minor digits reason end rest × (passes digits rest ≡ true))
unfolding some_status_line
line_found passes bytes is =
    let v = version_found (behind space (some_digits (λ digits. some_reason (some_line_end (λ end rest. passes digits rest))))) bytes is in
    let s = behind_found space (some_digits (λ digits. some_reason (some_line_end (λ end rest. passes digits rest)))) v.2.0 v.2.2 in
    let d = digits_found (λ digits. some_reason (some_line_end (λ end rest. passes digits rest))) s.0 s.2 in
    let r = reason_found (some_line_end (λ end rest. passes d.0 rest)) d.1 d.5 in
    let e = line_end_found (λ end rest. passes d.0 rest) r.1 r.4 in (
      v.0,
      d.0,
      r.0,
      e.0,
      (
        e.1,
        record {
          low = v.1;
          three = d.3;
          all = d.4;
          phrase = r.3;
          whole = printed (print_version v.0) v.2.0 s.0 d.0 d.1 (print_reason r.0) r.1 (print_end e.0) e.1 bytes v.2.1 s.1 d.2 r.2 e.2;
        },
        e.3,
      ),
    )
  where
    printed : (a r0 r1 b r2 c r3 d rest bytes : List ℕ) → bytes ≡ a ++ r0 → r0 ≡ 32 ∷ r1 → r1 ≡ b ++ r2 → r2 ≡ c ++ r3 → r3 ≡ d ++ rest
        → bytes ≡ a ++ (32 ∷ (b ++ (c ++ (d ++ rest))))
    printed a r0 r1 b r2 c r3 d rest bytes x y z u w =
        x ∙ ap (λ (l : List ℕ). a ++ l) (y ∙ ap (λ (l : List ℕ). 32 ∷ l) (z ∙ ap (λ (l : List ℕ). b ++ l) (u ∙ ap (λ (l : List ℕ). c ++ l) w)))

pub line_there : (passes : List ℕ → List ℕ → Bool) (minor : ℕ) (digits : List ℕ) (reason : Option (List ℕ)) (end : LineEnd) (rest : List ℕ) → minor ≤ 1
    → length digits ≡ 3 → AllPass is_ascii_digit digits → AllPass is_value_byte (reason_phrase reason) → passes digits rest ≡ true
    → some_status_line passes (print_version minor ++ (32 ∷ (digits ++ (print_reason reason ++ (print_end end ++ rest))))) ≡ true
unfolding some_status_line
line_there passes minor digits reason end rest low three all phrase ok =
    let ended = line_end_there (λ e r. passes digits r) end rest ok in
    let reasoned = reason_there (some_line_end (λ e r. passes digits r)) reason (print_end end ++ rest) phrase ended in
    let counted = digits_there (λ ds. some_reason (some_line_end (λ e r. passes ds r))) digits (print_reason reason ++ (print_end end ++ rest)) three all reasoned in
    let spaced = behind_there space (some_digits (λ ds. some_reason (some_line_end (λ e r. passes ds r)))) (digits ++ (print_reason reason ++ (print_end end ++ rest))) counted in
    version_there (behind space (some_digits (λ ds. some_reason (some_line_end (λ e r. passes ds r))))) minor (32 ∷ (digits ++ (print_reason reason ++ (print_end end ++ rest)))) low spaced

-- ---- heads

pub head_found : (passes : List ℕ → List Field → List ℕ → Bool) (bytes : List ℕ) → some_head passes bytes ≡ true
    → (h : ResponseHead) × (length h.fields ≤ 64) × ((rest : List ℕ) × ReadsResponse bytes h rest × (passes h.digits h.fields rest ≡ true))
unfolding some_head
head_found passes bytes is =
    let a = blank_found (length bytes) (some_status_line (λ digits. some_section (passes digits))) bytes is in
    let l = line_found (λ digits. some_section (passes digits)) a.1 a.3 in
    let s = section_found (passes l.1) l.4.0 l.4.2 in
    let line = l.4.1 in (
      record { blank = a.0; minor = l.0; digits = l.1; reason = l.2; line_end = l.3; fields = s.0; last = s.1 },
      s.3,
      (
        s.2,
        (
          record { minor = line.low; digits = (line.three, line.all); reason = line.phrase; fields = s.4.0 },
          printed (record { blank = a.0; minor = l.0; digits = l.1; reason = l.2; line_end = l.3; fields = s.0; last = s.1 }) bytes a.1 l.4.0 s.2 a.2 line.whole s.4.1,
        ),
        s.5,
      ),
    )
  where
    printed : (h : ResponseHead) (bytes r0 r1 rest : List ℕ) → bytes ≡ print_blank h.blank ++ r0
        → r0 ≡ print_version h.minor ++ (32 ∷ (h.digits ++ (print_reason h.reason ++ (print_end h.line_end ++ r1)))) → r1 ≡ print_section h.fields h.last ++ rest
        → bytes ≡ print_response h ++ rest
    printed h bytes r0 r1 rest x y z =
        x ∙ ap (λ (l : List ℕ). print_blank h.blank ++ l) (y ∙ ap (λ (l : List ℕ). print_version h.minor ++ (32 ∷ (h.digits ++ (print_reason h.reason ++ (print_end h.line_end ++ l))))) z)
        ∙ sym (print_response-append h rest)

pub head_there : (passes : List ℕ → List Field → List ℕ → Bool) (bytes : List ℕ) (h : ResponseHead) (rest : List ℕ) → ReadsResponse bytes h rest → length h.fields ≤ 64
    → passes h.digits h.fields rest ≡ true → some_head passes bytes ≡ true
unfolding some_head
head_there passes bytes h rest (is, whole) room ok =
    let sectioned = print_section h.fields h.last ++ rest in
    let at_line = print_version h.minor ++ (32 ∷ (h.digits ++ (print_reason h.reason ++ (print_end h.line_end ++ sectioned)))) in
    let section = section_there (passes h.digits) h.fields h.last rest is.fields room ok in
    let line = line_there (λ digits. some_section (passes digits)) h.minor h.digits h.reason h.line_end sectioned is.minor is.digits.0 is.digits.1 is.reason section in
    subst (λ (x : List ℕ). some_blank_lines (length bytes) (some_status_line (λ digits. some_section (passes digits))) x ≡ true) (sym (whole ∙ print_response-append h rest))
    (blank_there (length bytes) (some_status_line (λ digits. some_section (passes digits))) h.blank at_line
    (blank_room h.blank at_line bytes (whole ∙ print_response-append h rest)) line)
  where
    blank_length : (ends : List LineEnd) → length ends ≤ length (print_blank ends)
    blank_length [] = omega arith
    blank_length (crlf ∷ ends) = omega (arith, blank_length ends)
    blank_length (lf ∷ ends) = omega (arith, blank_length ends)

    blank_room : (ends : List LineEnd) (rest bytes : List ℕ) → bytes ≡ print_blank ends ++ rest → length ends ≤ length bytes
    blank_room ends rest bytes same = omega (arith, blank_length ends, ap length same, length-append (print_blank ends) rest)
