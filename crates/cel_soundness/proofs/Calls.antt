-- A function whose arguments have types that the table takes runs well.
use Rattle.std.proofs.Common.{◌≡◌, ℕ, ◌/◌, ◌%◌, nat_eq, Bool, true, false, not, ◌&&◌, List, [], ◌∷◌, ◌++◌, map, Option, None, Some, Err, cond, refl, sym, ap, ◌∙◌, subst}
use Rattle.std.proofs.lemmas.Bool.{eqb-true}
use Rattle.cel_values.specs.declared.error.EvalError.{EvalError}
use Rattle.cel_values.specs.declared.value.Value.{Value, out-Value}
use Rattle.cel_values.specs.declared.value.Value.TheOpen.{Value-F}
use Rattle.cel_values.specs.declared.value.Value.TheViews as made
use Rattle.cel_builtins.specs.declared.function.Function.{Function}
use Rattle.cel_builtins.specs.declared.overloads.TheConstants.{OVERLOADS}
use Rattle.cel_builtins.specs.Functions.{applied, takes, where_fits, of_one, of_two}
use Rattle.cel_builtins.specs.Outcomes.{Shape}
use Rattle.cel_builtins.specs.Overloads.{kind, kind_step, number, row}
use Rattle.cel_types.specs.declared.cel_type.CelType.{CelType, out-CelType}
use Rattle.cel_types.specs.declared.cel_type.CelType.TheOpen.{CelType-F}
use Rattle.cel_types.specs.declared.cel_type.CelType.TheViews as types
use Rattle.cel_types.specs.Types.{plain, fits, join}
use Rattle.cel_types.specs.Rows.{fits_kind, second_fits_kind, row_fits, results_of, common, by_rows, one_type, two_type, sum_type, joined_type, function_type}
use Rattle.cel_soundness.specs.WellTyped.{RunsWell, of_type, of_type_step, all_of_type}
use Rattle.cel_soundness.proofs.Shapes.{TypeShape, seen, of_type_is, list_layer, list_typed}
use Rattle.cel_soundness.proofs.Plain.{kind_of_plain, taken, and_left, and_right, and_both}
use Rattle.cel_soundness.proofs.Same.{fits_alone, joined, join_is, plain_list, plain_text}
use Rattle.cel_soundness.proofs.Table.{well_weighed, row_passes, passing, of_layers, of_layer, none_some, some_same, AskedOf, two_agree, one_agrees}

-- ---- rows by types are rows by layers

swap : (a b c : Bool) → (a && (b && c)) ≡ (b && (a && c))
swap true true c = refl
swap true false c = refl
swap false true c = refl
swap false false c = refl

and_true : (a : Bool) → a ≡ (a && true)
and_true true = refl
and_true false = refl

never_zero : (x : Shape) → nat_eq 0 (kind_step x) ≡ false
never_zero Value-F.Null = refl
never_zero (Value-F.Bool x) = refl
never_zero (Value-F.Int x) = refl
never_zero (Value-F.Text x) = refl
never_zero (Value-F.List x) = refl
never_zero (Value-F.Map x) = refl
never_zero (Value-F.Time x) = refl
never_zero (Value-F.Span x) = refl
never_zero Value-F.Opaque = refl

-- a value has a kind other than 0
apart : (b : Bool) (x : Shape) (k : ℕ) → nat_eq k 0 ≡ b → nat_eq k (kind_step x) ≡ (not b && nat_eq k (kind_step x))
apart false x k e = refl
apart true x k e = subst (λ i. nat_eq i (kind_step x) ≡ false) (sym (eqb-true k 0 e)) (never_zero x)

passes_is : (f : Function) (t : CelType) (u : Option CelType) (there first second : ℕ → Bool) (key : ℕ) → ((k : ℕ) → fits_kind t k ≡ first k)
    → ((k : ℕ) → second_fits_kind u k ≡ (there k && second k)) → row_fits f t u key ≡ row_passes f there first second key
passes_is f t u there first second key h g =
    ap (λ b. nat_eq (key / 100) (number f) && b)
    (ap (λ x. x && second_fits_kind u (key % 10)) (h ((key / 10) % 10))
    ∙ (ap (λ y. first ((key / 10) % 10) && y) (g (key % 10)) ∙ swap (first ((key / 10) % 10)) (there (key % 10)) (second (key % 10))))

rows_are : (f : Function) (t : CelType) (u : Option CelType) (there first second : ℕ → Bool) → ((k : ℕ) → fits_kind t k ≡ first k)
    → ((k : ℕ) → second_fits_kind u k ≡ (there k && second k)) → (rows : List (ℕ × ℕ)) → results_of f t u rows ≡ passing f there first second rows
rows_are f t u there first second h g [] = refl
rows_are f t u there first second h g (r ∷ rows) =
    ap (λ b. cond b (r.1 ∷ results_of f t u rows) (results_of f t u rows)) (passes_is f t u there first second r.0 h g)
    ∙ ap (λ ks. cond (row_passes f there first second r.0) (r.1 ∷ ks) ks) (rows_are f t u there first second h g rows)

two_rows : (f : Function) (a b : Value) (t u : CelType) → plain t ≡ true → plain u ≡ true → of_type a t ≡ true → of_type b u ≡ true
    → by_rows f t (Some u) ≡ of_layers f (out-Value a) (out-Value b)
unfolding by_rows
two_rows f a b t u p q h g =
    ap (common f) (rows_are f t (Some u) (λ k. not (nat_eq k 0)) (λ k. nat_eq k (kind a)) (λ k. nat_eq k (kind b))
    (λ k. kind_of_plain a t k p h) (λ k. kind_of_plain b u k q g ∙ apart (nat_eq k 0) (out-Value b) k refl) OVERLOADS)

one_row : (f : Function) (a : Value) (t : CelType) → plain t ≡ true → of_type a t ≡ true → by_rows f t None ≡ of_layer f (out-Value a)
unfolding by_rows
one_row f a t p h =
    ap (common f) (rows_are f t None (λ k. nat_eq k 0) (λ k. nat_eq k (kind a)) (λ k. true) (λ k. kind_of_plain a t k p h)
    (λ k. and_true (nat_eq k 0)) OVERLOADS)

-- ---- functions

pub one_well : (f : Function) (a : Value) (t v : CelType) → plain t ≡ true → of_type a t ≡ true → one_type f t ≡ Some v → RunsWell v (applied f (a ∷ []))
one_well f a t v p h is =
    subst (λ c. RunsWell v (cond c (where_fits (row f (kind a) 0) (of_one f (out-Value a))) (Err EvalError.NoOverload))) (sym (taken f a t p h))
    (one_agrees f (out-Value a) v (sym (one_row f a t p h) ∙ is))

-- where the row runs well, so does the function, which takes both
applied_well : (f : Function) (a b : Value) (t u v : CelType) → plain t ≡ true → plain u ≡ true → of_type a t ≡ true → of_type b u ≡ true
    → RunsWell v (where_fits (row f (kind a) (kind b)) (of_two f (out-Value a) (out-Value b))) → RunsWell v (applied f (a ∷ b ∷ []))
applied_well f a b t u v p q h g w =
    let o = where_fits (row f (kind a) (kind b)) (of_two f (out-Value a) (out-Value b)) in
    subst (λ c. RunsWell v (cond (c && takes f b) o (Err EvalError.NoOverload))) (sym (taken f a t p h))
    (subst (λ c. RunsWell v (cond c o (Err EvalError.NoOverload))) (sym (taken f b u q g)) w)

rows_well : (f : Function) (a b : Value) (t u v : CelType) → plain t ≡ true → plain u ≡ true → of_type a t ≡ true → of_type b u ≡ true
    → AskedOf f (out-Value a) → by_rows f t (Some u) ≡ Some v → RunsWell v (applied f (a ∷ b ∷ []))
rows_well f a b t u v p q h g k is = applied_well f a b t u v p q h g (two_agree f (out-Value a) (out-Value b) k v (sym (two_rows f a b t u p q h g) ∙ is))

-- ---- `+`

pub all_append : (vs ws : List Value) (t : CelType) → all_of_type (map of_type vs) t ≡ true → all_of_type (map of_type ws) t ≡ true
    → all_of_type (map of_type (vs ++ ws)) t ≡ true
all_append [] ws t h g = g
all_append (v ∷ vs) ws t h g =
    let rest = all_of_type (map of_type vs) t in
    and_both (of_type v t) (all_of_type (map of_type (vs ++ ws)) t) (and_left (of_type v t) rest h) (all_append vs ws t (and_right (of_type v t) rest h) g)

lists_well : (a b : Shape) (t : CelType) → of_type_step (seen a) (CelType-F.List t) ≡ true → of_type_step (seen b) (CelType-F.List t) ≡ true
    → RunsWell (types.List t) (where_fits (row Function.Add (kind_step a) (kind_step b)) (of_two Function.Add a b))
unfolding row
lists_well (Value-F.List vs) (Value-F.List ws) t h g = well_weighed (made.List (vs ++ ws)) (types.List t) (list_typed (vs ++ ws) t (all_append vs ws t h g))
lists_well (Value-F.List vs) _ t h g = cc
lists_well _ b t h g = cc

-- the type of `+`: by the table, or of two lists
data SumCase (other : Option CelType) (x y : TypeShape) (v : CelType) : Type 0 where
  by_table : other ≡ Some v → SumCase other x y v
  of_lists : (t u : CelType) → x ≡ CelType-F.List t → y ≡ CelType-F.List u → types.List (join t u) ≡ v → SumCase other x y v

sum_case : (other : Option CelType) (x y : TypeShape) (v : CelType) → sum_type x y other ≡ Some v → SumCase other x y v
sum_case other (CelType-F.List t) (CelType-F.List u) v h = of_lists t u refl refl (some_same (types.List (join t u)) v h)
sum_case other (CelType-F.List t) _ v h = by_table h
sum_case other _ _ v h = by_table h

add_lists : (a b : Value) (t u r s : CelType) → plain t ≡ true → plain u ≡ true → of_type a t ≡ true → of_type b u ≡ true → out-CelType t ≡ CelType-F.List r
    → out-CelType u ≡ CelType-F.List s → plain (join r s) ≡ true → RunsWell (types.List (join r s)) (applied Function.Add (a ∷ b ∷ []))
add_lists a b t u r s p q h g et eu j =
    let one : join r s ≡ r = join_is r s j in
    let same_type : r ≡ s = joined r s j in
    let left : of_type_step (seen (out-Value a)) (CelType-F.List (join r s)) ≡ true = subst (λ x. of_type_step (seen (out-Value a)) x ≡ true)
    (et ∙ ap (λ x. CelType-F.List x) (sym one)) (sym (of_type_is a t) ∙ h) in
    let right : of_type_step (seen (out-Value b)) (CelType-F.List (join r s)) ≡ true = subst (λ x. of_type_step (seen (out-Value b)) x ≡ true)
    (eu ∙ ap (λ x. CelType-F.List x) (sym (one ∙ same_type))) (sym (of_type_is b u) ∙ g) in
    applied_well Function.Add a b t u (types.List (join r s)) p q h g (lists_well (out-Value a) (out-Value b) (join r s) left right)

sum_well : (a b : Value) (t u v : CelType) → plain t ≡ true → plain u ≡ true → plain v ≡ true → of_type a t ≡ true → of_type b u ≡ true
    → SumCase (by_rows Function.Add t (Some u)) (out-CelType t) (out-CelType u) v → RunsWell v (applied Function.Add (a ∷ b ∷ []))
sum_well a b t u v p q k h g (by_table is) = rows_well Function.Add a b t u v p q h g tt is
sum_well a b t u v p q k h g (of_lists r s et eu is) =
    subst (λ x. RunsWell x (applied Function.Add (a ∷ b ∷ []))) is (add_lists a b t u r s p q h g et eu (sym (plain_list (join r s)) ∙ (ap plain is ∙ k)))

-- ---- `join`

pub where_both : (b : Bool) (other : Option CelType) (v : CelType) → cond b other None ≡ Some v → (b ≡ true) × (other ≡ Some v)
where_both true other v h = (refl, h)
where_both false other v h = absurd (none_some v h)

join_well : (a b : Value) (t u v : CelType) → plain t ≡ true → plain u ≡ true → of_type a t ≡ true → of_type b u ≡ true
    → joined_type t (by_rows Function.Join t (Some u)) ≡ Some v → RunsWell v (applied Function.Join (a ∷ b ∷ []))
join_well a b t u v p q h g is =
    let both = where_both (fits t (types.List CelType.Text)) (by_rows Function.Join t (Some u)) v is in
    let texts : t ≡ types.List CelType.Text = fits_alone t (types.List CelType.Text) p (plain_list CelType.Text ∙ plain_text) both.0 in
    rows_well Function.Join a b t u v p q h g (list_layer a CelType.Text (sym (ap (of_type a) texts) ∙ h)) both.1

pub two_well : (f : Function) (a b : Value) (t u v : CelType) → plain t ≡ true → plain u ≡ true → plain v ≡ true → of_type a t ≡ true → of_type b u ≡ true
    → two_type f t u ≡ Some v → RunsWell v (applied f (a ∷ b ∷ []))
two_well Function.Add a b t u v p q k h g is = sum_well a b t u v p q k h g (sum_case (by_rows Function.Add t (Some u)) (out-CelType t) (out-CelType u) v is)
two_well Function.Join a b t u v p q k h g is = join_well a b t u v p q h g is
two_well f a b t u v p q k h g is = rows_well f a b t u v p q h g tt is

-- ---- calls

-- each value has its type, which is plain
pub data AreOf : List Value → List CelType → Type 0 where
  no_values : AreOf [] []
  value_of : {v : Value} {t : CelType} {vs : List Value} {ts : List CelType} → plain t ≡ true → of_type v t ≡ true → AreOf vs ts → AreOf (v ∷ vs) (t ∷ ts)

pub function_well : (f : Function) (vs : List Value) (ts : List CelType) (v : CelType) → plain v ≡ true → AreOf vs ts → function_type f ts ≡ Some v
    → RunsWell v (applied f vs)
function_well f vs ts v k no_values is = absurd (none_some v is)
function_well f vs ts v k (value_of {v = a} {t = t} p h no_values) is = one_well f a t v p h is
function_well f vs ts v k (value_of {v = a} {t = t} p h (value_of {v = b} {t = u} q g no_values)) is = two_well f a b t u v p q k h g is
function_well f vs ts v k (value_of p h (value_of q g (value_of o i hs))) is = absurd (none_some v is)
