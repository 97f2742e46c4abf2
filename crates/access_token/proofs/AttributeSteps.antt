-- Attributes that are read in order.
use Rattle.std.proofs.Common.{◌≡◌, ℕ, List, [], ◌∷◌, ◌++◌, map, Option, None, Some, option_map, refl, sym, ap, ◌∙◌, append_assoc, Greater, nat_cmp, String}
use Rattle.std.specs.String.{string_bytes, string_cmp}
use Rattle.std.specs.declared.alloc.Global.{Global}
use Rattle.std.specs.declared.cmp.Ordering.TheVariants.{Less}
use Rattle.std.specs.Cmp.Lexicographic.{slice_cmp}
use Rattle.std.specs.List.{AllByRecursion}
use Rattle.std.specs.List.Sorted.{IsStrictlySortedBy}
use Rattle.std.specs.Ordering.{ordering_reverse}
use Rattle.std.proofs.lemmas.Cmp.{nat_list_cmp_total}
use Rattle.serde_json.specs.Find.{as_str}
use Rattle.serde_json.specs.View.{view, members_view}
use Rattle.serde_json.specs.declared.value.Value.{Value}
use Rattle.base_types.specs.Named.{put_in_order}
use Rattle.access_token.specs.Forms.{is_attribute}
use Rattle.access_token.specs.Parts.{formed, attributes_in}

abbrev Entries : Type 0
Entries = List (String Global × Value)

abbrev Attributes : Type 0
Attributes = List (List ℕ × List ℕ)

-- the names of what was found and of what is left
abbrev names : Attributes → Entries → List (List ℕ)
names found left = map (λ pair. pair.0) found ++ map (λ entry. string_bytes entry.0) left

abbrev onto : Attributes → Option Attributes → Option Attributes
onto found more = option_map (λ rest. found ++ rest) more

-- what was found stands before what is left, and the names rise
pub record IsReadBefore (entries : Entries) (found : Attributes) (left : Entries) : Type 0 where
  pub so_far : attributes_in (members_view entries) ≡ onto found (attributes_in (members_view left))
  pub rising : IsStrictlySortedBy (slice_cmp nat_cmp) (names found left)

onto-none : (more : Option Attributes) → more ≡ onto [] more
onto-none None = refl
onto-none (Some rest) = refl

all_after : (key : String Global) (entries : Entries) → AllByRecursion (λ other. string_cmp key other ≡ Less) (map (λ entry. entry.0) entries)
    → AllByRecursion (λ other. slice_cmp nat_cmp (string_bytes key) other ≡ Less) (map (λ entry. string_bytes entry.0) entries)
all_after key [] all = tt
all_after key (entry ∷ entries) all = (all.0, all_after key entries all.1)

sorted_keys : (entries : Entries) → IsStrictlySortedBy string_cmp (map (λ entry. entry.0) entries) → IsStrictlySortedBy (slice_cmp nat_cmp) (map (λ entry. string_bytes entry.0) entries)
unfolding IsStrictlySortedBy
sorted_keys [] rising = tt
sorted_keys (entry ∷ entries) rising = (all_after entry.0 entries rising.0, sorted_keys entries rising.1)

onto-more : (found : Attributes) (attribute : List ℕ × List ℕ) (more : Option Attributes) → onto found (option_map (λ rest. attribute ∷ rest) more) ≡ onto (found ++ attribute ∷ []) more
onto-more found attribute None = refl
onto-more found attribute (Some rest) = ap Some (sym (append_assoc found (attribute ∷ []) rest))

all_at : {A : Type 0} (P : A → Type 0) (before : List A) (x : A) (behind : List A) → AllByRecursion P (before ++ x ∷ behind) → P x
all_at P [] x behind all = all.0
all_at P (y ∷ before) x behind all = all_at P before x behind all.1

-- a name after all that were found goes to the end
put-last : (found : Attributes) (name value : List ℕ) (behind : List (List ℕ)) → IsStrictlySortedBy (slice_cmp nat_cmp) (map (λ pair. pair.0) found ++ name ∷ behind) → put_in_order name value found ≡ found ++ (name, value) ∷ []
unfolding IsStrictlySortedBy
put-last [] name value behind rising = refl
put-last (pair ∷ found) name value behind rising =
    let below : slice_cmp nat_cmp pair.0 name ≡ Less = all_at (λ other. slice_cmp nat_cmp pair.0 other ≡ Less) (map (λ p. p.0) found) name behind rising.0 in
    let above : slice_cmp nat_cmp name pair.0 ≡ Greater = nat_list_cmp_total.antisymm name pair.0 ∙ ap ordering_reverse below in
    rw above (ap (λ rest. pair ∷ rest) (put-last found name value behind rising.1))

names-more : (found : Attributes) (name value : List ℕ) (keys : List (List ℕ)) → map (λ pair. pair.0) found ++ name ∷ keys ≡ map (λ pair. pair.0) (found ++ (name, value) ∷ []) ++ keys
names-more [] name value keys = refl
names-more (pair ∷ found) name value keys = ap (λ rest. pair.0 ∷ rest) (names-more found name value keys)

pub read-more : (entries : Entries) (found put : Attributes) (entry : String Global × Value) (left : Entries) (value : List ℕ)
    → IsReadBefore entries found (entry ∷ left) → formed (λ v. is_attribute (string_bytes entry.0, v)) (as_str (view entry.1)) ≡ Some value
    → put ≡ put_in_order (string_bytes entry.0) value found → IsReadBefore entries put left
read-more entries found put entry left value before is is_put =
    let last : put ≡ found ++ (string_bytes entry.0, value) ∷ [] = is_put ∙ put-last found (string_bytes entry.0) value (map (λ e. string_bytes e.0) left) before.rising in
    record {
      so_far = before.so_far ∙ rw (is, last) (onto-more found (string_bytes entry.0, value) (attributes_in (members_view left)));
      rising = rw (last, ← names-more found (string_bytes entry.0) value (map (λ e. string_bytes e.0) left)) before.rising;
    }

pub read-none : (entries : Entries) (found : Attributes) (entry : String Global × Value) (left : Entries)
    → IsReadBefore entries found (entry ∷ left) → formed (λ v. is_attribute (string_bytes entry.0, v)) (as_str (view entry.1)) ≡ None → attributes_in (members_view entries) ≡ None
read-none entries found entry left before is = before.so_far ∙ rw is refl

pub read-begin : (entries left : Entries) (found : Attributes) → found ≡ [] → left ≡ entries → IsStrictlySortedBy string_cmp (map (λ entry. entry.0) entries) → IsReadBefore entries found left
read-begin entries left found is_found is_left rising = record {
  so_far = rw (is_found, is_left) (onto-none (attributes_in (members_view entries)));
  rising = rw (is_found, is_left) (sorted_keys entries rising);
}
