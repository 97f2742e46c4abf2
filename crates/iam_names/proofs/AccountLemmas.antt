-- The resource of an account is a resource.
use Rattle.std.proofs.Common.{◌≡◌, ℕ, ◌+◌, ◌≤◌, List, [], ◌∷◌, ◌++◌, Bool, true, false, not, ◌&&◌, eqb, leb, length, Option, Some, None, codes, refl, ap, ◌∙◌, arith, length-append}
use Rattle.std.specs.List.{list_all, slice_split}
use Rattle.std.specs.Str.{bytes_eq}
use Rattle.std.proofs.lemmas.Bool.{leb-true, le-leb}
use Rattle.std.proofs.lemmas.Bool.Decides.{nat_tests}
use Rattle.std.proofs.lemmas.List.Folds.{list_all-append}
use Rattle.std.proofs.lemmas.Slice.Eq.{bytes_eq-Decides}
use Rattle.base_types.specs.Forms.{has_size}
use Rattle.iam_names.specs.Cuts.{cut_at}
use Rattle.iam_names.specs.Forms.{passes, is_id_byte, is_plain_byte, is_label, is_account_home, is_account, is_resource}
use Rattle.iam_names.specs.Resource.{account_resource}
use Rattle.iam_names.proofs.CutLemmas.{cut_at-sound}

pub both : (a b : Bool) → (a && b) ≡ true → (a ≡ true) × (b ≡ true)
both true b h = (refl, h)
both false b h = cc

-- a byte of a segment
abbrev in_segment : ℕ → Bool
in_segment x = is_plain_byte x && not (eqb x 47)

id_in_segment : (x : ℕ) → is_id_byte x ≡ true → in_segment x ≡ true
id_in_segment x h = grind (arith, nat_tests)

all_in_segment : (text : List ℕ) → list_all is_id_byte text ≡ true → list_all in_segment text ≡ true
all_in_segment [] h = refl
all_in_segment (x ∷ text) h =
    let parts = both (is_id_byte x) (list_all is_id_byte text) h in
    rw (id_in_segment x parts.0, all_in_segment text parts.1) refl

all_plain : (text : List ℕ) → list_all in_segment text ≡ true → list_all is_plain_byte text ≡ true
all_plain [] h = refl
all_plain (x ∷ text) h =
    let parts = both (in_segment x) (list_all in_segment text) h in
    rw ((both (is_plain_byte x) (not (eqb x 47)) parts.0).0, all_plain text parts.1) refl

-- a text without a slash is one piece
one_piece : (text : List ℕ) → list_all in_segment text ≡ true → slice_split (λ byte. eqb byte 47) text ≡ text ∷ []
one_piece [] h = refl
one_piece (x ∷ text) h =
    let parts = both (in_segment x) (list_all in_segment text) h in
    let no_slash : eqb x 47 ≡ false = not_true (eqb x 47) (both (is_plain_byte x) (not (eqb x 47)) parts.0).1 in
    rw (no_slash, one_piece text parts.1) refl
  where
    not_true : (b : Bool) → not b ≡ true → b ≡ false
    not_true true g = cc
    not_true false g = refl

-- a label's bytes and size
pub record IsLabel (text : List ℕ) : Type 0 where
  pub bytes : list_all in_segment text ≡ true
  pub size : length text ≤ 63

label : (text : List ℕ) → is_label text ≡ true → IsLabel text
label text h =
    let parts = both (has_size 1 63 text) (list_all is_id_byte text) h in
    let size = both (leb 1 (length text)) (leb (length text) 63) parts.0 in
    record { bytes = all_in_segment text parts.1; size = leb-true (length text) 63 size.1 }

-- an account's bytes and size
pub record IsSegmentText (text : List ℕ) : Type 0 where
  pub bytes : list_all in_segment text ≡ true
  pub size : length text ≤ 90

joined_bytes : (front : List ℕ) (byte : ℕ) (rest : List ℕ) → list_all in_segment front ≡ true → in_segment byte ≡ true → list_all in_segment rest ≡ true → list_all in_segment (front ++ byte ∷ rest) ≡ true
joined_bytes front byte rest f b r = list_all-append in_segment front (byte ∷ rest) ∙ rw (f, b, r) refl

home : (text : List ℕ) → is_account_home text ≡ true → IsSegmentText text
home text h = by_cut (cut_at 46 text) (cut_at-sound 46 text) h
  where
    by_cut : (r : Option (List ℕ × List ℕ)) → ((parts : List ℕ × List ℕ) → r ≡ Some parts → text ≡ parts.0 ++ 46 ∷ parts.1) → passes (λ parts. is_label parts.0 && bytes_eq parts.1 (codes "iam.gserviceaccount.com")) r ≡ true → IsSegmentText text
    by_cut None sound g = cc
    by_cut (Some parts) sound g =
        let two = both (is_label parts.0) (bytes_eq parts.1 (codes "iam.gserviceaccount.com")) g in
        let project = label parts.0 two.0 in
        let domain : parts.1 ≡ codes "iam.gserviceaccount.com" = (bytes_eq-Decides parts.1 (codes "iam.gserviceaccount.com")).0 two.1 in
        let split : text ≡ parts.0 ++ 46 ∷ codes "iam.gserviceaccount.com" = sound parts refl ∙ ap (λ (d : List ℕ). parts.0 ++ 46 ∷ d) domain in
        rw split (record {
          bytes = joined_bytes parts.0 46 (codes "iam.gserviceaccount.com") project.bytes refl refl;
          size = rw (length-append parts.0 (46 ∷ codes "iam.gserviceaccount.com")) (omega (arith, project.size));
        })

account : (text : List ℕ) → is_account text ≡ true → (list_all in_segment text ≡ true) × (1 ≤ length text) × (length text ≤ 200)
account text h = by_cut (cut_at 64 text) (cut_at-sound 64 text) h
  where
    by_cut : (r : Option (List ℕ × List ℕ)) → ((parts : List ℕ × List ℕ) → r ≡ Some parts → text ≡ parts.0 ++ 64 ∷ parts.1) → passes (λ parts. is_label parts.0 && is_account_home parts.1) r ≡ true → (list_all in_segment text ≡ true) × (1 ≤ length text) × (length text ≤ 200)
    by_cut None sound g = cc
    by_cut (Some parts) sound g =
        let two = both (is_label parts.0) (is_account_home parts.1) g in
        let name = label parts.0 two.0 in
        let rest = home parts.1 two.1 in
        let split : text ≡ parts.0 ++ 64 ∷ parts.1 = sound parts refl in
        let size : length (parts.0 ++ 64 ∷ parts.1) ≡ length parts.0 + length (64 ∷ parts.1) = length-append parts.0 (64 ∷ parts.1) in
        rw split (joined_bytes parts.0 64 parts.1 name.bytes refl rest.bytes, rw size (omega (arith, name.size, rest.size)), rw size (omega (arith, name.size, rest.size)))

pub is_resource-account : (text : List ℕ) → is_account text ≡ true → is_resource (account_resource text) ≡ true
is_resource-account text h =
    let known = account text h in
    let short : leb (length (account_resource text)) 1024 ≡ true = le-leb (length (account_resource text)) 1024 (omega (arith, known.2)) in
    let full : leb 1 (length text) ≡ true = le-leb 1 (length text) known.1 in
    rw (short, one_piece text known.0, full, all_plain text known.0) refl
