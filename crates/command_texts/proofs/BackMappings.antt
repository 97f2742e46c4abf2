-- An exact mapping, written, reads back as itself.
use Rattle.std.proofs.Common.{◌≡◌, ℕ, suc, ◌+◌, ◌≤◌, true, List, [], ◌∷◌, ◌++◌, length, Option, None, Some, option_map, IfSome, Greater, nat_cmp, refl, sym, ap, ◌∙◌, subst, arith, append_assoc, append-nil, codes}
use Rattle.std.specs.List.{AllByRecursion, list_all}
use Rattle.std.specs.Cmp.Lexicographic.{slice_cmp}
use Rattle.std.proofs.lemmas.Bool.{and_parts, le-leb}
use Rattle.serde_json.specs.Data.{Members, member}
use Rattle.serde_json.specs.Find.{get_member}
use Rattle.base_types.specs.Named.{put_in_order, InOrder}
use Rattle.iam_names.specs.Forms.{is_attribute_name}
use Rattle.cel_types.specs.declared.cel_type.CelType.{CelType}
use Rattle.cel_expression.specs.declared.expression.Expression.{Expression}
use Rattle.pools.specs.Environments.{mapping_names}
use Rattle.pools.specs.declared.mapping.Mapping.{Mapping}
use Rattle.sts_admin.specs.Mappings.{are_mapped, is_mapping, member_count, text_list, attributes_in, mapping_of}
use Rattle.command_texts.specs.Exact.{IsSaidUnder, IsExactMapping, count_of, expression_count}
use Rattle.command_texts.specs.Written.{expression_data, with_attributes, mapping_members, mapping_data}
use Rattle.command_texts.proofs.MappingMembers.{Rows, fixed, fixed_of, put_last}

-- ---- the names that are no attributes

passed_over : (k : List ℕ) → ((name : List ℕ) → slice_cmp nat_cmp k (codes "attribute." ++ name) ≡ Greater)
    → (rows : Rows) (behind : Members) → get_member k (with_attributes rows behind) ≡ get_member k behind
passed_over k after [] behind = refl
passed_over k after (row ∷ rows) behind = rw (after row.0) (passed_over k after rows behind)

subject_in : (groups : Option Expression) (subject : Expression) → get_member (codes "google.subject") (fixed_of groups subject) ≡ Some (expression_data subject)
subject_in None subject = refl
subject_in (Some e) subject = refl

groups_in : (groups : Option Expression) (subject : Expression) → get_member (codes "google.groups") (fixed_of groups subject) ≡ option_map expression_data groups
groups_in None subject = refl
groups_in (Some e) subject = refl

subject_there : (mapping : Mapping) → get_member (codes "google.subject") (mapping_members mapping) ≡ Some (expression_data mapping.subject)
subject_there mapping =
    passed_over (codes "google.subject") (λ name. refl) mapping.attributes (fixed mapping) ∙ subject_in mapping.groups mapping.subject

groups_there : (mapping : Mapping) → get_member (codes "google.groups") (mapping_members mapping) ≡ option_map expression_data mapping.groups
groups_there mapping =
    passed_over (codes "google.groups") (λ name. refl) mapping.attributes (fixed mapping) ∙ groups_in mapping.groups mapping.subject

-- ---- its form

fixed_mapped : (groups : Option Expression) (subject : Expression) → are_mapped (fixed_of groups subject) ≡ true
fixed_mapped None subject = refl
fixed_mapped (Some e) subject = refl

rows_mapped : (rows : Rows) (behind : Members) → list_all (λ row. is_attribute_name row.0) rows ≡ true → are_mapped behind ≡ true → are_mapped (with_attributes rows behind) ≡ true
rows_mapped [] behind names rest = rest
rows_mapped (row ∷ rows) behind names rest =
    let parts = and_parts (is_attribute_name row.0) (list_all (λ r. is_attribute_name r.0) rows) names in
    rw (parts.0, rows_mapped rows behind parts.1 rest) refl

rows_counted : (rows : Rows) (behind : Members) → member_count (with_attributes rows behind) ≡ length rows + member_count behind
rows_counted [] behind = omega arith
rows_counted (row ∷ rows) behind = omega (arith, rows_counted rows behind)

fixed_counted : (groups : Option Expression) (subject : Expression) → member_count (fixed_of groups subject) ≡ suc (count_of groups)
fixed_counted None subject = refl
fixed_counted (Some e) subject = refl

members_counted : (mapping : Mapping) → member_count (mapping_members mapping) ≡ expression_count mapping
members_counted mapping = rows_counted mapping.attributes (fixed mapping) ∙ ap (λ (n : ℕ). length mapping.attributes + n) (fixed_counted mapping.groups mapping.subject)

pub mapping_formed : (mapping : Mapping) → list_all (λ row. is_attribute_name row.0) mapping.attributes ≡ true → expression_count mapping ≤ 50
    → is_mapping (mapping_data mapping) ≡ true
unfolding mapping_data
mapping_formed mapping names few = rw (
  members_counted mapping,
  le-leb (expression_count mapping) 50 few,
  rows_mapped mapping.attributes (fixed mapping) names (fixed_mapped mapping.groups mapping.subject),
  subject_there mapping,
) refl

-- ---- its expressions

fixed_attributes : (groups : Option Expression) (subject : Expression) (found : Rows) → attributes_in (fixed_of groups subject) found ≡ Some found
fixed_attributes None subject found = refl
fixed_attributes (Some e) subject found = refl

one_back : (row : List ℕ × Expression) (ms : Members) (found : Rows) → is_attribute_name row.0 ≡ true → IsSaidUnder mapping_names CelType.Text row.1
    → attributes_in (member (codes "attribute." ++ row.0) (expression_data row.1) ms) found ≡ attributes_in ms (put_in_order row.0 row.1 found)
one_back row ms found name said = rw (name, said.read) refl

rows_back : (rows found : Rows) (behind : Members) → list_all (λ row. is_attribute_name row.0) rows ≡ true
    → AllByRecursion (λ row. IsSaidUnder mapping_names CelType.Text row.1) rows → InOrder (found ++ rows)
    → attributes_in (with_attributes rows behind) found ≡ attributes_in behind (found ++ rows)
rows_back [] found behind names said rising = ap (attributes_in behind) (sym (append-nil found))
rows_back (row ∷ rows) found behind names said rising =
    let parts = and_parts (is_attribute_name row.0) (list_all (λ r. is_attribute_name r.0) rows) names in
    let whole : (found ++ row ∷ []) ++ rows ≡ found ++ row ∷ rows = append_assoc found (row ∷ []) rows in
    one_back row (with_attributes rows behind) found parts.0 said.0
    ∙ ap (attributes_in (with_attributes rows behind)) (put_last found row rows rising)
    ∙ rows_back rows (found ++ row ∷ []) behind parts.1 said.1 (subst InOrder (sym whole) rising)
    ∙ ap (attributes_in behind) whole

attributes_back : (mapping : Mapping) → list_all (λ row. is_attribute_name row.0) mapping.attributes ≡ true → InOrder mapping.attributes
    → AllByRecursion (λ row. IsSaidUnder mapping_names CelType.Text row.1) mapping.attributes → attributes_in (mapping_members mapping) [] ≡ Some mapping.attributes
attributes_back mapping names rising said = rows_back mapping.attributes [] (fixed mapping) names said rising ∙ fixed_attributes mapping.groups mapping.subject mapping.attributes

parts_back : (mapping : Mapping) (groups : Option Expression) → mapping.groups ≡ groups → IfSome groups (IsSaidUnder mapping_names text_list)
    → IsSaidUnder mapping_names CelType.Text mapping.subject → attributes_in (mapping_members mapping) [] ≡ Some mapping.attributes
    → mapping_of (mapping_data mapping) ≡ Some (record { subject = mapping.subject; groups = groups; attributes = mapping.attributes })
unfolding mapping_of mapping_data
parts_back mapping None is groups subject attributes = rw (subject_there mapping, subject.read, groups_there mapping, attributes, is) refl
parts_back mapping (Some e) is groups subject attributes = rw (subject_there mapping, subject.read, groups_there mapping, attributes, is, groups.read) refl

pub mapping_back : (mapping : Mapping) → IsExactMapping mapping → list_all (λ row. is_attribute_name row.0) mapping.attributes ≡ true → InOrder mapping.attributes
    → mapping_of (mapping_data mapping) ≡ Some mapping
mapping_back mapping is names rising =
    parts_back mapping mapping.groups refl is.groups is.subject (attributes_back mapping names rising is.attributes)
