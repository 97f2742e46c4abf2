-- A mapping that is read from an object in UTF-8 is exact.
use Rattle.std.proofs.Common.{◌≡◌, ℕ, suc, ◌+◌, ◌≤◌, Bool, true, false, ◌&&◌, List, [], ◌∷◌, length, Option, None, Some, option_and_then, is_some, IfSome, Ordering, Less, Equal, Greater, nat_cmp, nat_le, refl, sym, ap, ◌∙◌, subst, arith, codes}
use Rattle.std.specs.List.{AllByRecursion}
use Rattle.std.specs.Ordering.{match_ordering, is_eq}
use Rattle.std.specs.Cmp.Lexicographic.{slice_cmp}
use Rattle.std.specs.Str.{IsUtf8}
use Rattle.std.proofs.lemmas.Bool.{and_parts, leb-true}
use Rattle.std.proofs.lemmas.Map.Text.{is_eq-slice_cmp}
use Rattle.std.proofs.lemmas.Slice.Eq.{bytes_eq-Decides}
use Rattle.std.proofs.lemmas.Option.{same_Some, option_and_then_some}
use Rattle.serde_json.specs.Data.{Data, Members, no_members, member}
use Rattle.serde_json.specs.Find.{get_member, as_str, as_object}
use Rattle.base_types.specs.Named.{put_in_order}
use Rattle.iam_names.specs.Forms.{passes}
use Rattle.iam_names.proofs.PrintedLemmas.{bound}
use Rattle.json_text.specs.Clean.{HasUtf8, MembersHaveUtf8}
use Rattle.json_text.specs.Document.{text_at}
use Rattle.cel_types.specs.declared.cel_type.CelType.{CelType}
use Rattle.cel_expression.specs.declared.expression.Expression.{Expression}
use Rattle.pools.specs.Environments.{mapping_names}
use Rattle.pools.specs.declared.mapping.Mapping.{Mapping}
use Rattle.boundary.proofs.Options.{option_map_some}
use Rattle.sts_admin.specs.Mappings.{attribute_name, are_mapped, are_mapping, is_mapping, member_count, mapped_text, text_list, subject_of, groups_by, with_attribute, attributes_in, attributes_of, mapping_of}
use Rattle.sts_admin.proofs.CountedMembers.{get_in}
use Rattle.command_texts.specs.Exact.{IsSaidUnder, IsExactMapping, count_of}
use Rattle.command_texts.proofs.ReadParts.{if_there, str_utf8, object_utf8, text_utf8, said, said_there}

abbrev Rows : Type 0
Rows = List (List ℕ × Expression)

-- each expression is the one that its text says
abbrev AreSaid : Rows → Type 0
AreSaid rows = AllByRecursion (λ row. IsSaidUnder mapping_names CelType.Text row.1) rows

-- ---- how many there are

abbrev one_if : Bool → ℕ
one_if true = 1
one_if false = 0

-- how many attributes there are among the members
abbrev attribute_count : Members → ℕ
attribute_count no_members = 0
attribute_count (member key d ms) = one_if (is_some (attribute_name key)) + attribute_count ms

-- whether the member is the one of that name
abbrev hit : List ℕ → List ℕ → ℕ
hit name key = match_ordering (slice_cmp nat_cmp name key) 0 1 0

found_more : (o : Ordering) (there : Option Data) (d : Data)
    → one_if (is_some (match_ordering o there (Some d) there)) ≤ match_ordering o 0 1 0 + one_if (is_some there)
found_more Less there d = omega arith
found_more Equal there d = omega arith
found_more Greater there d = omega arith

at_most_one : (b : Bool) → one_if b ≤ 1
at_most_one true = omega arith
at_most_one false = omega arith

same_name : (a b : List ℕ) → slice_cmp nat_cmp a b ≡ Equal → a ≡ b
same_name a b h = (bytes_eq-Decides a b).0 (sym (is_eq-slice_cmp a b) ∙ ap is_eq h)

one_kind : (key : List ℕ) (g s : Ordering) → slice_cmp nat_cmp (codes "google.groups") key ≡ g → slice_cmp nat_cmp (codes "google.subject") key ≡ s
    → one_if (is_some (attribute_name key)) + match_ordering g 0 1 0 + match_ordering s 0 1 0 ≤ 1
one_kind key Equal s groups subject =
    let same : codes "google.groups" ≡ key = same_name (codes "google.groups") key groups in
    let other : s ≡ Greater = sym subject ∙ ap (slice_cmp nat_cmp (codes "google.subject")) (sym same) in
    rw (← same, other) (omega arith)
one_kind key Less Equal groups subject =
    let same : codes "google.subject" ≡ key = same_name (codes "google.subject") key subject in rw (← same) (omega arith)
one_kind key Greater Equal groups subject =
    let same : codes "google.subject" ≡ key = same_name (codes "google.subject") key subject in rw (← same) (omega arith)
one_kind key Less Less groups subject = omega (arith, at_most_one (is_some (attribute_name key)))
one_kind key Less Greater groups subject = omega (arith, at_most_one (is_some (attribute_name key)))
one_kind key Greater Less groups subject = omega (arith, at_most_one (is_some (attribute_name key)))
one_kind key Greater Greater groups subject = omega (arith, at_most_one (is_some (attribute_name key)))

all_counted : (ms : Members)
    → attribute_count ms + one_if (is_some (get_member (codes "google.groups") ms)) + one_if (is_some (get_member (codes "google.subject") ms)) ≤ member_count ms
all_counted no_members = omega arith
all_counted (member key d ms) = omega (
  arith,
  found_more (slice_cmp nat_cmp (codes "google.groups") key) (get_member (codes "google.groups") ms) d,
  found_more (slice_cmp nat_cmp (codes "google.subject") key) (get_member (codes "google.subject") ms) d,
  one_kind key (slice_cmp nat_cmp (codes "google.groups") key) (slice_cmp nat_cmp (codes "google.subject") key) refl refl,
  all_counted ms,
)

-- ---- attributes

put_said : (o : Ordering) (P : Rows → Type 0) (first same later : Rows) → P first → P same → P later → P (match_ordering o first same later)
put_said Less P first same later a b c = a
put_said Equal P first same later a b c = b
put_said Greater P first same later a b c = c

-- what was put is said, and there is one more at most
record IsPut (rows more : Rows) : Type 0 where
  said : AreSaid more
  size : length more ≤ suc (length rows)

one_put : (name : List ℕ) (e : Expression) (rows : Rows) → IsSaidUnder mapping_names CelType.Text e → AreSaid rows → IsPut rows (put_in_order name e rows)
one_put name e [] is all = record { said = (is, tt); size = omega arith }
one_put name e (row ∷ rows) is all =
    let rest = one_put name e rows is all.1 in
    put_said (slice_cmp nat_cmp name row.0) (λ more. IsPut (row ∷ rows) more) _ _ _
    (record { said = (is, all); size = omega arith })
    (record { said = (is, all.1); size = omega arith })
    (record { said = (all.0, rest.said); size = omega (arith, rest.size) })

-- what was found among members is said, and there are no more than so many
record IsFound (rows : Rows) (most : ℕ) : Type 0 where
  said : AreSaid rows
  size : length rows ≤ most

one_found : (o : Option (List ℕ)) (d : Data) (found more : Rows) → HasUtf8 d → AreSaid found → with_attribute o d found ≡ Some more
    → IsFound more (length found + one_if (is_some o))
one_found None d found more utf8 all h =
    let same : found ≡ more = same_Some found more h in
    record { said = subst AreSaid same all; size = rw (← same) (omega arith) }
one_found (Some name) d found more utf8 all h =
    option_map_some (λ e. put_in_order name e found) (option_and_then (mapped_text CelType.Text) (as_str d)) more h (λ e there whole.
    option_and_then_some (mapped_text CelType.Text) (as_str d) e there (λ text is read.
    let utf8_text : IsUtf8 text = if_there IsUtf8 (as_str d) text (str_utf8 d utf8) is in
    let put = one_put name e found (said mapping_names CelType.Text text e utf8_text read) all in
    record { said = subst AreSaid whole put.said; size = rw (← whole) (omega (arith, put.size)) }))

all_found : (ms : Members) (found rows : Rows) → MembersHaveUtf8 ms → AreSaid found → attributes_in ms found ≡ Some rows
    → IsFound rows (length found + attribute_count ms)
all_found no_members found rows utf8 all h =
    let same : found ≡ rows = same_Some found rows h in
    record { said = subst AreSaid same all; size = rw (← same) (omega arith) }
all_found (member key d ms) found rows utf8 all h =
    let step = bound (with_attribute (attribute_name key) d found) (λ more. attributes_in ms more) rows h in
    let one = one_found (attribute_name key) d found step.0 utf8.1 all step.1 in
    let rest = all_found ms step.0 rows utf8.2 one.said step.2 in
    record { said = rest.said; size = omega (arith, one.size, rest.size) }

-- ---- the mapping

-- an object that is a mapping
record IsMappingOf (d : Data) (ms : Members) : Type 0 where
  object : as_object d ≡ Some ms
  few : member_count ms ≤ 50
  subject : is_some (get_member (codes "google.subject") ms) ≡ true

object_of : (d : Data) (o : Option Members) → as_object d ≡ o → passes are_mapping o ≡ true → (ms : Members) × IsMappingOf d ms
object_of d None is h = cc
object_of d (Some ms) is h =
    let few = and_parts (nat_le (member_count ms) 50) (are_mapped ms && is_some (get_member (codes "google.subject") ms)) h in
    let rest = and_parts (are_mapped ms) (is_some (get_member (codes "google.subject") ms)) few.1 in
    (ms, record { object = is; few = leb-true (member_count ms) 50 few.0; subject = rest.1 })

groups_said : (o : Option (List ℕ)) (found : Option Expression) → IfSome o IsUtf8 → groups_by o ≡ Some found → IfSome found (IsSaidUnder mapping_names text_list)
groups_said None found utf8 h = subst (λ (e : Option Expression). IfSome e (IsSaidUnder mapping_names text_list)) (same_Some None found h) tt
groups_said (Some text) found utf8 h = said_there mapping_names text_list text found utf8 h

groups_counted : (there : Option Data) (found : Option Expression) → groups_by (option_and_then as_str there) ≡ Some found → count_of found ≤ one_if (is_some there)
groups_counted None found h = rw (← same_Some None found h) (omega arith)
groups_counted (Some d) None h = omega arith
groups_counted (Some d) (Some e) h = omega arith

one_is : (b : Bool) → b ≡ true → one_if b ≡ 1
one_is true h = refl
one_is false h = cc

mapping_size : (d : Data) (ms : Members) (rows : Rows) (groups : Option Expression) → IsMappingOf d ms → length rows ≤ attribute_count ms
    → groups_by (text_at (codes "google.groups") d) ≡ Some groups → length rows + suc (count_of groups) ≤ 50
mapping_size d ms rows groups is size h =
    let same = get_in (codes "google.groups") d ms is.object in
    let there = groups_counted (get_member (codes "google.groups") ms) groups (ap (λ o. groups_by (option_and_then as_str o)) (sym same) ∙ h) in
    omega (arith, all_counted ms, is.few, size, there, one_is (is_some (get_member (codes "google.subject") ms)) is.subject)

pub mapping_exact : (d : Data) (mapping : Mapping) → HasUtf8 d → is_mapping d ≡ true → mapping_of d ≡ Some mapping → IsExactMapping mapping
unfolding mapping_of
mapping_exact d mapping utf8 is h =
    let members = object_of d (as_object d) refl is in
    let ms = members.0 in
    let subject = bound (subject_of d) _ mapping h in
    let groups = bound (groups_by (text_at (codes "google.groups") d)) _ mapping subject.2 in
    let rows = bound (attributes_of d) _ mapping groups.2 in
    let made : Mapping = record { subject = subject.0; groups = groups.0; attributes = rows.0 } in
    let same : made ≡ mapping = same_Some made mapping rows.2 in
    let found : IsFound rows.0 (attribute_count ms) =
    let read = ap (option_and_then (λ (found : Members). attributes_in found [])) (sym members.1.object) ∙ rows.1 in
    let all = all_found ms [] rows.0 (if_there MembersHaveUtf8 (as_object d) ms (object_utf8 d utf8) members.1.object) tt read in
    record { said = all.said; size = omega (arith, all.size) } in
    subst IsExactMapping same (record {
      few = mapping_size d ms rows.0 groups.0 members.1 found.size groups.1;
      subject = option_and_then_some (mapped_text CelType.Text) (text_at (codes "google.subject") d) subject.0 subject.1 (λ text there read.
          said mapping_names CelType.Text text subject.0 (if_there IsUtf8 _ text (text_utf8 (codes "google.subject") d utf8) there) read);
      groups = groups_said (text_at (codes "google.groups") d) groups.0 (text_utf8 (codes "google.groups") d utf8) groups.1;
      attributes = found.said;
    })
