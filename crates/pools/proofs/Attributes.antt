-- Attributes that are mapped in order.
use Rattle.std.proofs.Common.{◌≡◌, ℕ, List, [], ◌∷◌, ◌++◌, map, Ok, Err, refl, sym, ap, ◌∙◌, append_assoc, append-nil, Greater, nat_cmp, Result}
use Rattle.std.specs.declared.cmp.Ordering.TheVariants.{Less}
use Rattle.std.specs.Cmp.Lexicographic.{slice_cmp}
use Rattle.std.specs.List.{AllByRecursion}
use Rattle.std.specs.List.Sorted.{IsStrictlySortedBy}
use Rattle.std.specs.Ordering.{ordering_reverse}
use Rattle.std.proofs.lemmas.Cmp.{nat_list_cmp_total}
use Rattle.base_types.specs.Named.{put_in_order, InOrder}
use Rattle.base_types.specs.Steps.{◌>>=◌}
use Rattle.cel_eval.specs.Denotation.{Env}
use Rattle.cel_expression.specs.declared.expression.Expression.{Expression}
use Rattle.pools.specs.declared.fault.MapFault.{MapFault}
use Rattle.pools.specs.Mapped.{attribute_of, attributes_of}

abbrev Rows : Type 0
Rows = List (List ℕ × Expression)

abbrev Texts : Type 0
Texts = List (List ℕ × List ℕ)

-- the names of what was mapped and of what is left
abbrev names : Texts → Rows → List (List ℕ)
names found left = map (λ pair. pair.0) found ++ map (λ row. row.0) left

abbrev onto : Texts → Result Texts MapFault → Result Texts MapFault
onto found more = more >>= λ rest. Ok (found ++ rest)

-- what was mapped stands before what is left, and the names rise
pub record IsMappedBefore (rows : Rows) (env : Env) (found : Texts) (left : Rows) : Type 0 where
  pub so_far : attributes_of rows env ≡ onto found (attributes_of left env)
  pub rising : IsStrictlySortedBy (slice_cmp nat_cmp) (names found left)

onto-none : (more : Result Texts MapFault) → more ≡ onto [] more
onto-none (Ok rest) = refl
onto-none (Err fault) = refl

onto-more : (found : Texts) (attribute : List ℕ × List ℕ) (more : Result Texts MapFault) → onto found (more >>= λ rest. Ok (attribute ∷ rest)) ≡ onto (found ++ attribute ∷ []) more
onto-more found attribute (Err fault) = refl
onto-more found attribute (Ok rest) = ap Ok (sym (append_assoc found (attribute ∷ []) rest))

all_at : {A : Type 0} (P : A → Type 0) (before : List A) (x : A) (behind : List A) → AllByRecursion P (before ++ x ∷ behind) → P x
all_at P [] x behind all = all.0
all_at P (y ∷ before) x behind all = all_at P before x behind all.1

-- a name after all that were found goes to the end
put-last : (found : Texts) (name value : List ℕ) (behind : List (List ℕ)) → IsStrictlySortedBy (slice_cmp nat_cmp) (map (λ pair. pair.0) found ++ name ∷ behind) → put_in_order name value found ≡ found ++ (name, value) ∷ []
unfolding IsStrictlySortedBy
put-last [] name value behind rising = refl
put-last (pair ∷ found) name value behind rising =
    let below : slice_cmp nat_cmp pair.0 name ≡ Less = all_at (λ other. slice_cmp nat_cmp pair.0 other ≡ Less) (map (λ p. p.0) found) name behind rising.0 in
    let above : slice_cmp nat_cmp name pair.0 ≡ Greater = nat_list_cmp_total.antisymm name pair.0 ∙ ap ordering_reverse below in
    rw above (ap (λ rest. pair ∷ rest) (put-last found name value behind rising.1))

names-more : (found : Texts) (name value : List ℕ) (keys : List (List ℕ)) → map (λ pair. pair.0) found ++ name ∷ keys ≡ map (λ pair. pair.0) (found ++ (name, value) ∷ []) ++ keys
names-more [] name value keys = refl
names-more (pair ∷ found) name value keys = ap (λ rest. pair.0 ∷ rest) (names-more found name value keys)

pub mapped-begin : (rows left : Rows) (env : Env) (found : Texts) → found ≡ [] → left ≡ rows → InOrder rows → IsMappedBefore rows env found left
mapped-begin rows left env found is_found is_left rising = record {
  so_far = rw (is_found, is_left) (onto-none (attributes_of rows env));
  rising = rw (is_found, is_left) rising;
}

pub mapped-more : (rows left : Rows) (env : Env) (found put : Texts) (name : List ℕ) (attribute : Expression) (value : List ℕ)
    → IsMappedBefore rows env found ((name, attribute) ∷ left) → attribute_of name attribute env ≡ Ok value
    → put ≡ put_in_order name value found → IsMappedBefore rows env put left
mapped-more rows left env found put name attribute value before is is_put =
    let last : put ≡ found ++ (name, value) ∷ [] = is_put ∙ put-last found name value (map (λ row. row.0) left) before.rising in
    record {
      so_far = before.so_far ∙ rw (is, last) (onto-more found (name, value) (attributes_of left env));
      rising = rw (last, ← names-more found name value (map (λ row. row.0) left)) before.rising;
    }

pub mapped-fault : (rows left : Rows) (env : Env) (found : Texts) (name : List ℕ) (attribute : Expression) (fault : MapFault)
    → IsMappedBefore rows env found ((name, attribute) ∷ left) → attribute_of name attribute env ≡ Err fault → attributes_of rows env ≡ Err fault
mapped-fault rows left env found name attribute fault before is = before.so_far ∙ rw is refl

pub mapped-end : (rows left : Rows) (env : Env) (found : Texts) → IsMappedBefore rows env found left → left ≡ [] → attributes_of rows env ≡ Ok found
mapped-end rows left env found before is_left = before.so_far ∙ rw is_left (ap Ok (append-nil found))
