-- The attributes of a mapping that is read have names of their form, in byte order.
use Rattle.std.proofs.Common.{◌≡◌, ℕ, List, [], ◌∷◌, Bool, true, false, ◌&&◌, Option, Some, None, IfSome, option_map, option_and_then, map, Ordering, Less, Equal, Greater, nat_cmp, refl, ap, ◌∙◌, subst}
use Rattle.std.specs.Prelude.{codes, if◌then◌else◌}
use Rattle.std.specs.List.{list_all, AllByRecursion}
use Rattle.std.specs.List.Sorted.{IsStrictlySortedBy}
use Rattle.std.specs.Ordering.{match_ordering, ordering_reverse}
use Rattle.std.specs.Cmp.Lexicographic.{slice_cmp}
use Rattle.std.proofs.lemmas.Cmp.{nat_list_cmp_total}
use Rattle.serde_json.specs.Data.{Data, Members, no_members, member}
use Rattle.serde_json.specs.Find.{as_str, as_object}
use Rattle.base_types.specs.Forms.{passing}
use Rattle.base_types.specs.Named.{put_in_order, InOrder}
use Rattle.base_types.specs.Reading.{◌>>=◌}
use Rattle.json_text.specs.Document.{text_at}
use Rattle.iam_names.specs.Cuts.{after}
use Rattle.iam_names.specs.Forms.{is_attribute_name}
use Rattle.cel_types.specs.declared.cel_type.CelType.{CelType}
use Rattle.cel_expression.specs.declared.expression.Expression.{Expression}
use Rattle.pools.specs.declared.mapping.Mapping.{Mapping}
use Rattle.sts_admin.specs.Mappings.{attribute_name, mapped_text, subject_of, groups_by, with_attribute, attributes_in, attributes_of, mapping_of}

abbrev pub Rows : Type 0
Rows = List (List ℕ × Expression)

abbrev pub names_formed : Rows → Bool
names_formed rows = list_all (λ row. is_attribute_name row.0) rows

abbrev names_of : Rows → List (List ℕ)
names_of rows = map (λ row. row.0) rows

-- names of their form, in byte order
pub record AreFormed (rows : Rows) : Type 0 where
  pub names : names_formed rows ≡ true
  pub rising : InOrder rows

-- ---- an attribute that is put

both : (a b : Bool) → (a && b) ≡ true → (a ≡ true) × (b ≡ true)
both true b h = (refl, h)
both false b h = cc

joined : (a b : Bool) → a ≡ true → b ≡ true → (a && b) ≡ true
joined true b is h = h
joined false b is h = cc

placed : (P : Rows → Type 0) (o : Ordering) (first same later : Rows) → (o ≡ Less → P first) → P same → (o ≡ Greater → P later) → P (match_ordering o first same later)
placed P Less first same later a b c = a refl
placed P Equal first same later a b c = b
placed P Greater first same later a b c = c refl

names_put : (name : List ℕ) (e : Expression) (rows : Rows) → is_attribute_name name ≡ true → names_formed rows ≡ true → names_formed (put_in_order name e rows) ≡ true
names_put name e [] is h = joined (is_attribute_name name) true is refl
names_put name e (row ∷ rows) is h =
    let parts = both (is_attribute_name row.0) (names_formed rows) h in
    placed (λ found. names_formed found ≡ true) (slice_cmp nat_cmp name row.0) _ _ _
    (λ less. joined (is_attribute_name name) (names_formed (row ∷ rows)) is h) h
    (λ greater. joined (is_attribute_name row.0) (names_formed (put_in_order name e rows)) parts.0 (names_put name e rows is parts.1))

all_put : (P : List ℕ → Type 0) (name : List ℕ) (e : Expression) (rows : Rows) → P name → AllByRecursion P (names_of rows) → AllByRecursion P (names_of (put_in_order name e rows))
all_put P name e [] p h = (p, tt)
all_put P name e (row ∷ rows) p h =
    placed (λ found. AllByRecursion P (names_of found)) (slice_cmp nat_cmp name row.0) _ _ _
    (λ less. (p, h)) h (λ greater. (h.0, all_put P name e rows p h.1))

all_above : (low high : List ℕ) (names : List (List ℕ)) → slice_cmp nat_cmp low high ≡ Less → AllByRecursion (λ name. slice_cmp nat_cmp high name ≡ Less) names → AllByRecursion (λ name. slice_cmp nat_cmp low name ≡ Less) names
all_above low high [] less h = tt
all_above low high (name ∷ names) less h = (nat_list_cmp_total.trans low high name less h.0, all_above low high names less h.1)

turned : (a b : List ℕ) → slice_cmp nat_cmp a b ≡ Greater → slice_cmp nat_cmp b a ≡ Less
turned a b h = nat_list_cmp_total.antisymm b a ∙ ap ordering_reverse h

order_put : (name : List ℕ) (e : Expression) (rows : Rows) → InOrder rows → InOrder (put_in_order name e rows)
unfolding IsStrictlySortedBy
order_put name e [] h = (tt, tt)
order_put name e (row ∷ rows) h =
    placed InOrder (slice_cmp nat_cmp name row.0) _ _ _
    (λ less. ((less, all_above name row.0 (names_of rows) less h.0), h)) h
    (λ greater. (all_put (λ other. slice_cmp nat_cmp row.0 other ≡ Less) name e rows (turned name row.0 greater) h.0, order_put name e rows h.1))

formed_put : (name : List ℕ) (e : Expression) (rows : Rows) → is_attribute_name name ≡ true → AreFormed rows → AreFormed (put_in_order name e rows)
formed_put name e rows is formed = record { names = names_put name e rows is formed.names; rising = order_put name e rows formed.rising }

-- ---- the attributes of an object

passed : (test : List ℕ → Bool) (text : List ℕ) (b : Bool) → test text ≡ b → IfSome (if b then Some text else None) (λ x. test x ≡ true)
passed test text true is = is
passed test text false is = tt

pub passing_passes : (test : List ℕ → Bool) (o : Option (List ℕ)) → IfSome (option_and_then (passing test) o) (λ x. test x ≡ true)
passing_passes test None = tt
passing_passes test (Some text) = passed test text (test text) refl

with_expression : (name : List ℕ) (found : Rows) (next : Rows → Option Rows) → ((more : Rows) → AreFormed more → IfSome (next more) AreFormed) → is_attribute_name name ≡ true → AreFormed found
    → (o : Option Expression) → IfSome (option_map (λ e. put_in_order name e found) o >>= next) AreFormed
with_expression name found next again is formed None = tt
with_expression name found next again is formed (Some e) = again (put_in_order name e found) (formed_put name e found is formed)

with_name : (d : Data) (found : Rows) (next : Rows → Option Rows) → ((more : Rows) → AreFormed more → IfSome (next more) AreFormed) → AreFormed found
    → (o : Option (List ℕ)) → IfSome o (λ name. is_attribute_name name ≡ true) → IfSome (with_attribute o d found >>= next) AreFormed
with_name d found next again formed None is = again found formed
with_name d found next again formed (Some name) is = with_expression name found next again is formed (option_and_then (mapped_text CelType.Text) (as_str d))

formed_in : (ms : Members) (found : Rows) → AreFormed found → IfSome (attributes_in ms found) AreFormed
formed_in no_members found formed = formed
formed_in (member key d ms) found formed =
    with_name d found (λ more. attributes_in ms more) (λ more. formed_in ms more) formed (attribute_name key) (passing_passes is_attribute_name (after (codes "attribute.") key))

none_formed : AreFormed []
unfolding IsStrictlySortedBy
none_formed = record { names = refl; rising = tt }

formed_of : (o : Option Members) → IfSome (option_and_then (λ ms. attributes_in ms []) o) AreFormed
formed_of None = tt
formed_of (Some ms) = formed_in ms [] none_formed

pub attributes_named : (d : Data) (rows : Rows) → attributes_of d ≡ Some rows → names_formed rows ≡ true
attributes_named d rows is =
    let formed : AreFormed rows = subst (λ o. IfSome o AreFormed) is (formed_of (as_object d)) in formed.names

-- ---- the mapping

by_parts : (subject : Option Expression) (groups : Option (Option Expression)) (attributes : Option Rows) → IfSome attributes AreFormed
    → IfSome (subject >>= (λ s. groups >>= (λ g. attributes >>= (λ a. Some (let made : Mapping = record { subject = s; groups = g; attributes = a } in made))))) (λ mapping. AreFormed mapping.attributes)
by_parts None groups attributes formed = tt
by_parts (Some s) None attributes formed = tt
by_parts (Some s) (Some g) None formed = tt
by_parts (Some s) (Some g) (Some a) formed = formed

pub mapping_formed : (d : Data) → IfSome (mapping_of d) (λ mapping. AreFormed mapping.attributes)
unfolding mapping_of
mapping_formed d = by_parts (subject_of d) (groups_by (text_at (codes "google.groups") d)) (attributes_of d) (formed_of (as_object d))
