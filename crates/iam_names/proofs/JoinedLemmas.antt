-- A name's text and its parts.
use Rattle.std.proofs.Common.{◌≡◌, ◌≤◌, ◌↔◌, ℕ, List, [], ◌∷◌, ◌++◌, Bool, true, false, not, ◌&&◌, eqb, leb, cond, length, get_or, All, flat_map, Option, Some, None, codes, refl, ap, sym, ◌∙◌, arith, append-nil}
use Rattle.std.specs.List.{AllByRecursion, list_all, slice_split, onto_first}
use Rattle.std.specs.Option.{option_map_or}
use Rattle.std.specs.Str.{bytes_eq}
use Rattle.std.proofs.lemmas.Bool.{eqb-true, leb-true, le-leb}
use Rattle.std.proofs.lemmas.Bool.Decides.{nat_tests}
use Rattle.std.proofs.lemmas.List.Splits.{slice_split_none, slice_split_at}
use Rattle.std.proofs.lemmas.List.Sums.{AllPass-from_list_all}
use Rattle.std.proofs.lemmas.Slice.Eq.{bytes_eq-Decides}
use Rattle.base_types.specs.Forms.{has_size}
use Rattle.iam_names.specs.Cuts.{after, cut_at}
use Rattle.iam_names.specs.Forms.{passes, is_id_byte, is_word_byte, is_role_byte, is_host_byte, is_plain_byte, is_label, is_account_home, is_account, is_word, are_two_words, are_three_words, is_permission, is_role_id, is_role, is_host, is_segment, are_segments, is_path, is_slashed_path, is_resource}
use Rattle.iam_names.specs.Joined.{IsMadeOf, IsAccountText, IsPermissionText, IsRoleText, IsResourceText, is_segment_byte}
use Rattle.iam_names.proofs.AccountLemmas.{both}
use Rattle.iam_names.proofs.CutLemmas.{lacks, after-append, after-sound, cut_at-append, cut_at-sound, cut_at-lacks}
use Rattle.iam_names.proofs.ReadBackLemmas.{implied}

and_true : (a b : Bool) → a ≡ true → b ≡ true → (a && b) ≡ true
and_true true b p q = q
and_true false b p q = cc

-- ---- the tests of one part

made : (test : ℕ → Bool) (text : List ℕ) → (leb 1 (length text) && list_all test text) ≡ true → IsMadeOf test text
made test text h =
    let parts = both (leb 1 (length text)) (list_all test text) h in
    record { some = leb-true 1 (length text) parts.0; bytes = parts.1 }

made_back : (test : ℕ → Bool) (text : List ℕ) → IsMadeOf test text → (leb 1 (length text) && list_all test text) ≡ true
made_back test text m = and_true (leb 1 (length text)) (list_all test text) (le-leb 1 (length text) m.some) m.bytes

sized : (test : ℕ → Bool) (high : ℕ) (text : List ℕ) → (has_size 1 high text && list_all test text) ≡ true → IsMadeOf test text × (length text ≤ high)
sized test high text h =
    let parts = both (has_size 1 high text) (list_all test text) h in
    let size = both (leb 1 (length text)) (leb (length text) high) parts.0 in
    (record { some = leb-true 1 (length text) size.0; bytes = parts.1 }, leb-true (length text) high size.1)

sized_back : (test : ℕ → Bool) (high : ℕ) (text : List ℕ) → IsMadeOf test text → length text ≤ high → (has_size 1 high text && list_all test text) ≡ true
sized_back test high text m short =
    and_true (has_size 1 high text) (list_all test text) (and_true (leb 1 (length text)) (leb (length text) high) (le-leb 1 (length text) m.some) (le-leb (length text) high short)) m.bytes

-- ---- a test of the parts of a cut

passes_some : {A : Type 0} (test : A → Bool) (there : Option A) (x : A) → there ≡ Some x → test x ≡ true → passes test there ≡ true
passes_some test there x e h = ap (passes test) e ∙ h

cut_of : (byte : ℕ) (test : List ℕ × List ℕ → Bool) (text : List ℕ) → passes test (cut_at byte text) ≡ true → (parts : List ℕ × List ℕ) × (text ≡ parts.0 ++ byte ∷ parts.1) × (test parts ≡ true)
cut_of byte test text h = by_result (cut_at byte text) (cut_at-sound byte text) h
  where
    by_result : (r : Option (List ℕ × List ℕ)) → ((parts : List ℕ × List ℕ) → r ≡ Some parts → text ≡ parts.0 ++ byte ∷ parts.1) → passes test r ≡ true → (parts : List ℕ × List ℕ) × (text ≡ parts.0 ++ byte ∷ parts.1) × (test parts ≡ true)
    by_result None sound g = cc
    by_result (Some parts) sound g = (parts, sound parts refl, g)

after_of : (front : List ℕ) (test : List ℕ → Bool) (text : List ℕ) → passes test (after front text) ≡ true → (rest : List ℕ) × (text ≡ front ++ rest) × (test rest ≡ true)
after_of front test text h = by_result (after front text) (after-sound front text) h
  where
    by_result : (r : Option (List ℕ)) → ((rest : List ℕ) → r ≡ Some rest → text ≡ front ++ rest) → passes test r ≡ true → (rest : List ℕ) × (text ≡ front ++ rest) × (test rest ≡ true)
    by_result None sound g = cc
    by_result (Some rest) sound g = (rest, sound rest refl, g)

-- ---- an account

account_parts : (text : List ℕ) → is_account text ≡ true → IsAccountText text
account_parts text h =
    let cut = cut_of 64 (λ parts. is_label parts.0 && is_account_home parts.1) text h in
    let two = both (is_label cut.0.0) (is_account_home cut.0.1) cut.2 in
    let home = cut_of 46 (λ parts. is_label parts.0 && bytes_eq parts.1 (codes "iam.gserviceaccount.com")) cut.0.1 two.1 in
    let ends = both (is_label home.0.0) (bytes_eq home.0.1 (codes "iam.gserviceaccount.com")) home.2 in
    let name = sized is_id_byte 63 cut.0.0 two.0 in
    let project = sized is_id_byte 63 home.0.0 ends.0 in
    let last : home.0.1 ≡ codes "iam.gserviceaccount.com" = (bytes_eq-Decides home.0.1 (codes "iam.gserviceaccount.com")).0 ends.1 in
    record {
      name = cut.0.0;
      project = home.0.0;
      text_is = cut.1 ∙ ap (λ (l : List ℕ). cut.0.0 ++ 64 ∷ l) (home.1 ∙ ap (λ (l : List ℕ). home.0.0 ++ 46 ∷ l) last);
      name_is = name.0;
      name_size = name.1;
      project_is = project.0;
      project_size = project.1;
    }

id_no_at : (x : ℕ) → is_id_byte x ≡ true → not (eqb x 64) ≡ true
id_no_at x h = grind (arith, nat_tests)

id_no_dot : (x : ℕ) → is_id_byte x ≡ true → not (eqb x 46) ≡ true
id_no_dot x h = grind (arith, nat_tests)

account_whole : (text : List ℕ) → IsAccountText text → is_account text ≡ true
account_whole text a =
    let cut : cut_at 64 text ≡ Some (a.name, a.project ++ codes ".iam.gserviceaccount.com") =
    ap (cut_at 64) a.text_is ∙ cut_at-append 64 a.name (a.project ++ codes ".iam.gserviceaccount.com") (implied is_id_byte (λ x. not (eqb x 64)) id_no_at a.name a.name_is.bytes) in
    let home : cut_at 46 (a.project ++ codes ".iam.gserviceaccount.com") ≡ Some (a.project, codes "iam.gserviceaccount.com") =
    cut_at-append 46 a.project (codes "iam.gserviceaccount.com") (implied is_id_byte (λ x. not (eqb x 46)) id_no_dot a.project a.project_is.bytes) in
    let project : is_account_home (a.project ++ codes ".iam.gserviceaccount.com") ≡ true =
    passes_some (λ parts. is_label parts.0 && bytes_eq parts.1 (codes "iam.gserviceaccount.com")) (cut_at 46 (a.project ++ codes ".iam.gserviceaccount.com")) (a.project, codes "iam.gserviceaccount.com") home
    (and_true (is_label a.project) true (sized_back is_id_byte 63 a.project a.project_is a.project_size) refl) in
    passes_some (λ parts. is_label parts.0 && is_account_home parts.1) (cut_at 64 text) (a.name, a.project ++ codes ".iam.gserviceaccount.com") cut
    (and_true (is_label a.name) (is_account_home (a.project ++ codes ".iam.gserviceaccount.com")) (sized_back is_id_byte 63 a.name a.name_is a.name_size) project)

pub account_joined : (text : List ℕ) → (is_account text ≡ true) ↔ IsAccountText text
account_joined text = (account_parts text, account_whole text)

-- ---- a permission

permission_parts : (text : List ℕ) → is_permission text ≡ true → IsPermissionText text
permission_parts text h =
    let whole = both (leb (length text) 128) (are_three_words text) h in
    let cut = cut_of 46 (λ parts. is_word parts.0 && are_two_words parts.1) text whole.1 in
    let first = both (is_word cut.0.0) (are_two_words cut.0.1) cut.2 in
    let rest = cut_of 46 (λ parts. is_word parts.0 && is_word parts.1) cut.0.1 first.1 in
    let last = both (is_word rest.0.0) (is_word rest.0.1) rest.2 in
    record {
      service = cut.0.0;
      resource = rest.0.0;
      verb = rest.0.1;
      text_is = cut.1 ∙ ap (λ (l : List ℕ). cut.0.0 ++ 46 ∷ l) rest.1;
      service_is = made is_word_byte cut.0.0 first.0;
      resource_is = made is_word_byte rest.0.0 last.0;
      verb_is = made is_word_byte rest.0.1 last.1;
      size = leb-true (length text) 128 whole.0;
    }

word_no_dot : (x : ℕ) → is_word_byte x ≡ true → not (eqb x 46) ≡ true
word_no_dot x h = grind (arith, nat_tests)

permission_whole : (text : List ℕ) → IsPermissionText text → is_permission text ≡ true
permission_whole text p =
    let tail = p.resource ++ 46 ∷ p.verb in
    let cut : cut_at 46 text ≡ Some (p.service, tail) =
    ap (cut_at 46) p.text_is ∙ cut_at-append 46 p.service tail (implied is_word_byte (λ x. not (eqb x 46)) word_no_dot p.service p.service_is.bytes) in
    let rest : cut_at 46 tail ≡ Some (p.resource, p.verb) =
    cut_at-append 46 p.resource p.verb (implied is_word_byte (λ x. not (eqb x 46)) word_no_dot p.resource p.resource_is.bytes) in
    let two : are_two_words tail ≡ true =
    passes_some (λ parts. is_word parts.0 && is_word parts.1) (cut_at 46 tail) (p.resource, p.verb) rest
    (and_true (is_word p.resource) (is_word p.verb) (made_back is_word_byte p.resource p.resource_is) (made_back is_word_byte p.verb p.verb_is)) in
    let three : are_three_words text ≡ true =
    passes_some (λ parts. is_word parts.0 && are_two_words parts.1) (cut_at 46 text) (p.service, tail) cut
    (and_true (is_word p.service) (are_two_words tail) (made_back is_word_byte p.service p.service_is) two) in
    and_true (leb (length text) 128) (are_three_words text) (le-leb (length text) 128 p.size) three

pub permission_joined : (text : List ℕ) → (is_permission text ≡ true) ↔ IsPermissionText text
permission_joined text = (permission_parts text, permission_whole text)

-- ---- a role

role_parts : (text : List ℕ) → is_role text ≡ true → IsRoleText text
role_parts text h =
    let rest = after_of (codes "roles/") is_role_id text h in
    let id = sized is_role_byte 64 rest.0 rest.2 in
    record { id = rest.0; text_is = rest.1; id_is = id.0; id_size = id.1 }

role_whole : (text : List ℕ) → IsRoleText text → is_role text ≡ true
role_whole text r =
    passes_some is_role_id (after (codes "roles/") text) r.id (ap (after (codes "roles/")) r.text_is ∙ after-append (codes "roles/") r.id) (sized_back is_role_byte 64 r.id r.id_is r.id_size)

pub role_joined : (text : List ℕ) → (is_role text ≡ true) ↔ IsRoleText text
role_joined text = (role_parts text, role_whole text)

-- ---- a resource

-- the pieces between slashes
abbrev pieces : List ℕ → List (List ℕ)
pieces text = slice_split (λ byte. eqb byte 47) text

-- the pieces, each behind a slash
abbrev slashed : List (List ℕ) → List ℕ
slashed parts = flat_map (λ part. 47 ∷ part) parts

slashed-pieces : (text : List ℕ) → slashed (pieces text) ≡ 47 ∷ text
slashed-pieces [] = refl
slashed-pieces (x ∷ text) = by_head (eqb x 47) (pieces text) refl (slashed-pieces text)
  where
    by_head : (b : Bool) (parts : List (List ℕ)) → eqb x 47 ≡ b → slashed parts ≡ 47 ∷ text → slashed (cond b ([] ∷ parts) (onto_first x parts)) ≡ 47 ∷ x ∷ text
    by_head true parts e h = ap (λ (l : List ℕ). 47 ∷ l) h ∙ ap (λ (y : ℕ). 47 ∷ y ∷ text) (sym (eqb-true x 47 e))
    by_head false [] e h = cc
    by_head false (part ∷ parts) e h = cc

pieces_lack : (text : List ℕ) → AllByRecursion (λ part. lacks 47 part ≡ true) (pieces text)
pieces_lack [] = (refl, tt)
pieces_lack (x ∷ text) = by_head (eqb x 47) (pieces text) refl (pieces_lack text)
  where
    by_head : (b : Bool) (parts : List (List ℕ)) → eqb x 47 ≡ b → AllByRecursion (λ part. lacks 47 part ≡ true) parts → AllByRecursion (λ part. lacks 47 part ≡ true) (cond b ([] ∷ parts) (onto_first x parts))
    by_head true parts e h = (refl, h)
    by_head false [] e h = (rw e refl, tt)
    by_head false (part ∷ parts) e h = (rw (e, h.0) refl, h.1)

segment_bytes : (part : List ℕ) → list_all is_plain_byte part ≡ true → lacks 47 part ≡ true → list_all is_segment_byte part ≡ true
segment_bytes [] h l = refl
segment_bytes (x ∷ part) h l =
    let plain = both (is_plain_byte x) (list_all is_plain_byte part) h in
    let slash = both (not (eqb x 47)) (lacks 47 part) l in
    and_true (is_segment_byte x) (list_all is_segment_byte part) (and_true (is_plain_byte x) (not (eqb x 47)) plain.0 slash.0) (segment_bytes part plain.1 slash.1)

segments_made : (parts : List (List ℕ)) → list_all is_segment parts ≡ true → AllByRecursion (λ part. lacks 47 part ≡ true) parts → AllByRecursion (IsMadeOf is_segment_byte) parts
segments_made [] h l = tt
segments_made (part ∷ parts) h l =
    let each = both (is_segment part) (list_all is_segment parts) h in
    let one = made is_plain_byte part each.0 in
    (record { some = one.some; bytes = segment_bytes part one.bytes l.0 }, segments_made parts each.1 l.1)

resource_parts : (text : List ℕ) → is_resource text ≡ true → IsResourceText text
resource_parts text h = by_cut (cut_at 47 path.0) (cut_at-sound 47 path.0) path.2
  where
    whole : (leb (length text) 1024 ≡ true) × (is_slashed_path text ≡ true)
    whole = both (leb (length text) 1024) (is_slashed_path text) h

    path : (rest : List ℕ) × (text ≡ codes "//" ++ rest) × (is_path rest ≡ true)
    path = after_of (codes "//") is_path text whole.1

    by_cut : (r : Option (List ℕ × List ℕ)) → ((parts : List ℕ × List ℕ) → r ≡ Some parts → path.0 ≡ parts.0 ++ 47 ∷ parts.1) → option_map_or (λ parts. is_host parts.0 && are_segments parts.1) r (is_host path.0) ≡ true → IsResourceText text
    by_cut None sound g = record {
      host = path.0;
      segments = [];
      text_is = path.1 ∙ ap (λ (l : List ℕ). codes "//" ++ l) (sym (append-nil path.0));
      host_is = made is_host_byte path.0 g;
      segments_are = tt;
      size = leb-true (length text) 1024 whole.0;
    }
    by_cut (Some parts) sound g =
        let two = both (is_host parts.0) (are_segments parts.1) g in
        record {
          host = parts.0;
          segments = pieces parts.1;
          text_is = path.1 ∙ ap (λ (l : List ℕ). codes "//" ++ l) (sound parts refl ∙ ap (λ (l : List ℕ). parts.0 ++ l) (sym (slashed-pieces parts.1)));
          host_is = made is_host_byte parts.0 two.0;
          segments_are = segments_made (pieces parts.1) two.1 (pieces_lack parts.1);
          size = leb-true (length text) 1024 whole.0;
        }

host_no_slash : (x : ℕ) → is_host_byte x ≡ true → not (eqb x 47) ≡ true
host_no_slash x h = grind (arith, nat_tests)

segment_plain : (x : ℕ) → is_segment_byte x ≡ true → is_plain_byte x ≡ true
segment_plain x h = (both (is_plain_byte x) (not (eqb x 47)) h).0

not_slash : (part : List ℕ) → IsMadeOf is_segment_byte part → All (λ x. eqb x 47 ≡ false) part
not_slash part m k d within = is_false (eqb (get_or part k d) 47) (AllPass-from_list_all (λ x. not (eqb x 47)) part (implied is_segment_byte (λ x. not (eqb x 47)) (λ x h. (both (is_plain_byte x) (not (eqb x 47)) h).1) part m.bytes) k d within)
  where
    is_false : (b : Bool) → not b ≡ true → b ≡ false
    is_false true g = cc
    is_false false g = refl

pieces-slashed : (part : List ℕ) (parts : List (List ℕ)) → IsMadeOf is_segment_byte part → AllByRecursion (IsMadeOf is_segment_byte) parts → pieces (part ++ slashed parts) ≡ part ∷ parts
pieces-slashed part [] m all = ap pieces (append-nil part) ∙ slice_split_none (λ byte. eqb byte 47) part (not_slash part m)
pieces-slashed part (next ∷ parts) m all =
    slice_split_at (λ byte. eqb byte 47) part 47 (next ++ slashed parts) (not_slash part m) refl
    ∙ ap (λ (l : List (List ℕ)). part ∷ l) (pieces-slashed next parts all.0 all.1)

segments_pass : (parts : List (List ℕ)) → AllByRecursion (IsMadeOf is_segment_byte) parts → list_all is_segment parts ≡ true
segments_pass [] all = refl
segments_pass (part ∷ parts) all =
    and_true (is_segment part) (list_all is_segment parts)
    (made_back is_plain_byte part (record { some = all.0.some; bytes = implied is_segment_byte is_plain_byte segment_plain part all.0.bytes }))
    (segments_pass parts all.1)

path_whole : (host : List ℕ) (segments : List (List ℕ)) → IsMadeOf is_host_byte host → AllByRecursion (IsMadeOf is_segment_byte) segments → is_path (host ++ slashed segments) ≡ true
path_whole host [] m all =
    ap is_path (append-nil host)
    ∙ ap (λ (r : Option (List ℕ × List ℕ)). option_map_or (λ parts. is_host parts.0 && are_segments parts.1) r (is_host host)) (cut_at-lacks 47 host (implied is_host_byte (λ x. not (eqb x 47)) host_no_slash host m.bytes))
    ∙ made_back is_host_byte host m
path_whole host (part ∷ segments) m all =
    ap (λ (r : Option (List ℕ × List ℕ)). option_map_or (λ parts. is_host parts.0 && are_segments parts.1) r (is_host (host ++ slashed (part ∷ segments))))
    (cut_at-append 47 host (part ++ slashed segments) (implied is_host_byte (λ x. not (eqb x 47)) host_no_slash host m.bytes))
    ∙ and_true (is_host host) (are_segments (part ++ slashed segments)) (made_back is_host_byte host m)
    (ap (list_all is_segment) (pieces-slashed part segments all.0 all.1) ∙ segments_pass (part ∷ segments) all)

resource_whole : (text : List ℕ) → IsResourceText text → is_resource text ≡ true
resource_whole text r =
    let path = r.host ++ slashed r.segments in
    and_true (leb (length text) 1024) (is_slashed_path text) (le-leb (length text) 1024 r.size)
    (passes_some is_path (after (codes "//") text) path (ap (after (codes "//")) r.text_is ∙ after-append (codes "//") path) (path_whole r.host r.segments r.host_is r.segments_are))

pub resource_joined : (text : List ℕ) → (is_resource text ≡ true) ↔ IsResourceText text
resource_joined text = (resource_parts text, resource_whole text)
