-- The members of a written mapping: in byte order, and read one by one.
use Rattle.std.proofs.Common.{◌≡◌, ℕ, ◌≤◌, List, [], ◌∷◌, ◌++◌, map, Option, None, Some, option_map, IfSome, Less, Greater, nat_cmp, refl, sym, ap, ◌∙◌, arith, codes}
use Rattle.std.specs.List.{AllByRecursion}
use Rattle.std.specs.List.Sorted.{IsStrictlySortedBy}
use Rattle.std.specs.Ordering.{ordering_reverse}
use Rattle.std.specs.Cmp.Lexicographic.{slice_cmp}
use Rattle.std.proofs.lemmas.Cmp.{nat_list_cmp_total}
use Rattle.serde_json.specs.Data.{Data, string, Members, no_members, member, put, members_depth}
use Rattle.base_types.specs.Named.{put_in_order, InOrder}
use Rattle.json_text.specs.Clean.{IsClean, HasCleanMembers, AreAfter}
use Rattle.cel_expression.specs.declared.expression.Expression.{Expression}
use Rattle.pools.specs.declared.mapping.Mapping.{Mapping}
use Rattle.boundary.specs.Written.{optional}
use Rattle.boundary.proofs.WrittenParts.{after_optional, optional_clean, optional_deep, deep}
use Rattle.command_texts.specs.Written.{expression_data, with_attributes, mapping_members}

abbrev pub Rows : Type 0
Rows = List (List ℕ × Expression)

-- ---- in byte order

-- the members of a mapping that are no attributes
abbrev pub fixed_of : Option Expression → Expression → Members
fixed_of groups subject =
    optional (codes "google.groups") (option_map expression_data groups) (member (codes "google.subject") (expression_data subject) no_members)

abbrev pub fixed : Mapping → Members
fixed mapping = fixed_of mapping.groups mapping.subject

text_clean : (o : Option Expression) → IfSome (option_map expression_data o) IsClean
text_clean None = tt
text_clean (Some e) = tt

fixed_clean : (mapping : Mapping) → HasCleanMembers (fixed mapping)
fixed_clean mapping =
    optional_clean (codes "google.groups") (option_map expression_data mapping.groups) (member (codes "google.subject") (expression_data mapping.subject) no_members)
    (text_clean mapping.groups) (tt, tt, tt) (refl, tt)

-- an attribute stands before them
fixed_after : (name : List ℕ) (mapping : Mapping) → AreAfter (codes "attribute." ++ name) (fixed mapping)
fixed_after name mapping =
    after_optional (codes "attribute." ++ name) (codes "google.groups") (option_map expression_data mapping.groups) (member (codes "google.subject") (expression_data mapping.subject) no_members)
    refl (refl, tt)

rows_after : (name : List ℕ) (rows : Rows) (behind : Members) → AllByRecursion (λ other. slice_cmp nat_cmp name other ≡ Less) (map (λ row. row.0) rows)
    → AreAfter (codes "attribute." ++ name) behind → AreAfter (codes "attribute." ++ name) (with_attributes rows behind)
rows_after name [] behind all after = after
rows_after name (row ∷ rows) behind all after = (all.0, rows_after name rows behind all.1 after)

rows_clean : (rows : Rows) (behind : Members) → InOrder rows → HasCleanMembers behind → ((name : List ℕ) → AreAfter (codes "attribute." ++ name) behind)
    → HasCleanMembers (with_attributes rows behind)
unfolding IsStrictlySortedBy
rows_clean [] behind rising clean after = clean
rows_clean (row ∷ rows) behind rising clean after = (tt, rows_clean rows behind rising.1 clean after, rows_after row.0 rows behind rising.0 (after row.0))

pub attributes_clean : (rows : Rows) → InOrder rows → HasCleanMembers (with_attributes rows no_members)
attributes_clean rows rising = rows_clean rows no_members rising tt (λ name. tt)

pub mapping_clean : (mapping : Mapping) → InOrder mapping.attributes → HasCleanMembers (mapping_members mapping)
mapping_clean mapping rising = rows_clean mapping.attributes (fixed mapping) rising (fixed_clean mapping) (λ name. fixed_after name mapping)

-- ---- one after another

-- a name after all attributes goes behind them
put_behind : (k : List ℕ) (d : Data) → ((name : List ℕ) → slice_cmp nat_cmp k (codes "attribute." ++ name) ≡ Greater)
    → (rows : Rows) (behind : Members) → put k d (with_attributes rows behind) ≡ with_attributes rows (put k d behind)
put_behind k d after [] behind = refl
put_behind k d after (row ∷ rows) behind =
    rw (after row.0) (ap (member (codes "attribute." ++ row.0) (expression_data row.1)) (put_behind k d after rows behind))

-- the groups alone
abbrev groups_of : Option Expression → Members
groups_of groups = optional (codes "google.groups") (option_map expression_data groups) no_members

-- the members of a mapping without its subject
abbrev pub without_subject : Mapping → Members
without_subject mapping = with_attributes mapping.attributes (groups_of mapping.groups)

pub groups_put : (mapping : Mapping) (e : Expression) (old new : Members) → mapping.groups ≡ Some e → old ≡ with_attributes mapping.attributes no_members
    → new ≡ put (codes "google.groups") (string e.text) old → new ≡ without_subject mapping
groups_put mapping e old new is is_old is_new =
    is_new ∙ ap (put (codes "google.groups") (string e.text)) is_old
    ∙ put_behind (codes "google.groups") (string e.text) (λ name. refl) mapping.attributes no_members
    ∙ ap (λ (o : Option Expression). with_attributes mapping.attributes (groups_of o)) (sym is)

pub groups_none : (mapping : Mapping) (old : Members) → mapping.groups ≡ None → old ≡ with_attributes mapping.attributes no_members → old ≡ without_subject mapping
groups_none mapping old is is_old =
    is_old ∙ ap (λ (o : Option Expression). with_attributes mapping.attributes (groups_of o)) (sym is)

pub subject_put : (mapping : Mapping) (old : Members) → old ≡ without_subject mapping → put (codes "google.subject") (string mapping.subject.text) old ≡ mapping_members mapping
subject_put mapping old is =
    ap (put (codes "google.subject") (string mapping.subject.text)) is
    ∙ put_behind (codes "google.subject") (string mapping.subject.text) (λ name. refl) mapping.attributes _
    ∙ ap (with_attributes mapping.attributes) (last mapping.groups)
  where
    last : (o : Option Expression)
        → put (codes "google.subject") (string mapping.subject.text) (groups_of o)
        ≡ fixed_of o mapping.subject
    last None = refl
    last (Some e) = refl

-- ---- not deep

text_deep : (o : Option Expression) → deep (option_map expression_data o) ≤ 0
unfolding deep
text_deep None = omega arith
text_deep (Some e) = omega arith

rows_deep : (rows : Rows) (behind : Members) → members_depth (with_attributes rows behind) ≤ members_depth behind
rows_deep [] behind = omega arith
rows_deep (row ∷ rows) behind = omega (arith, rows_deep rows behind)

pub mapping_deep : (mapping : Mapping) → members_depth (mapping_members mapping) ≤ 0
mapping_deep mapping = omega (
  arith,
  rows_deep mapping.attributes (fixed mapping),
  optional_deep (codes "google.groups") (option_map expression_data mapping.groups) (member (codes "google.subject") (expression_data mapping.subject) no_members),
  text_deep mapping.groups,
)

-- ---- a name after all others goes to the end

all_at : {A : Type 0} (P : A → Type 0) (before : List A) (x : A) (behind : List A) → AllByRecursion P (before ++ x ∷ behind) → P x
all_at P [] x behind all = all.0
all_at P (y ∷ before) x behind all = all_at P before x behind all.1

names_joined : (found rows : Rows) → map (λ row. row.0) (found ++ rows) ≡ map (λ row. row.0) found ++ map (λ row. row.0) rows
names_joined [] rows = refl
names_joined (row ∷ found) rows = ap (λ (rest : List (List ℕ)). row.0 ∷ rest) (names_joined found rows)

last_put : (found : Rows) (name : List ℕ) (e : Expression) (behind : List (List ℕ)) → IsStrictlySortedBy (slice_cmp nat_cmp) (map (λ row. row.0) found ++ name ∷ behind)
    → put_in_order name e found ≡ found ++ (name, e) ∷ []
unfolding IsStrictlySortedBy
last_put [] name e behind rising = refl
last_put (row ∷ found) name e behind rising =
    let below : slice_cmp nat_cmp row.0 name ≡ Less = all_at (λ other. slice_cmp nat_cmp row.0 other ≡ Less) (map (λ r. r.0) found) name behind rising.0 in
    let above : slice_cmp nat_cmp name row.0 ≡ Greater = nat_list_cmp_total.antisymm name row.0 ∙ ap ordering_reverse below in
    rw above (ap (λ (rest : Rows). row ∷ rest) (last_put found name e behind rising.1))

pub put_last : (found : Rows) (row : List ℕ × Expression) (rows : Rows) → InOrder (found ++ row ∷ rows) → put_in_order row.0 row.1 found ≡ found ++ row ∷ []
put_last found row rows rising = last_put found row.0 row.1 (map (λ r. r.0) rows) (rw (names_joined found (row ∷ rows)) at rising)
