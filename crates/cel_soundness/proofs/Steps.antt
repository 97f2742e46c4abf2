-- Each form keeps that evaluations run well.
use Rattle.std.proofs.Common.{◌≡◌, ℕ, zero, suc, ℤ, pos, negsuc, Bool, true, false, not, ◌||◌, List, [], ◌∷◌, map, Option, Some, Ok, Err, cond, refl, sym, ap, ◌∙◌, subst}
use Rattle.std.specs.Prelude.{slice_get}
use Rattle.std.specs.Str.{bytes_eq}
use Rattle.cel_values.specs.declared.error.EvalError.{EvalError}
use Rattle.cel_values.specs.declared.expr.BinaryOp.{BinaryOp}
use Rattle.cel_values.specs.declared.value.Value.{Value, out-Value}
use Rattle.cel_values.specs.declared.value.Value.TheOpen.{Value-F}
use Rattle.cel_values.specs.declared.value.MapEntry.{MapEntry}
use Rattle.cel_values.specs.Equality.{equal}
use Rattle.cel_values.specs.Opacity.{holds_opaque}
use Rattle.cel_builtins.specs.declared.function.Function.{Function}
use Rattle.cel_builtins.specs.Functions.{applied}
use Rattle.cel_builtins.specs.Outcomes.{Or, Outcome, Shape, ◌>>=◌}
use Rattle.cel_eval.specs.Denotation.{entry_at, or_no_key, has_key, selected, presence, item_or, item_at, indexed, any_equal, lies_in, truth_of, tested, said, both, either, unless_opaque, strict, logic, binary, binary_by, chosen}
use Rattle.cel_eval.specs.declared.operators.Logic.{Logic}
use Rattle.cel_types.specs.declared.cel_type.CelType.{CelType}
use Rattle.cel_types.specs.declared.cel_type.CelType.TheOpen.{CelType-F}
use Rattle.cel_types.specs.Types.{plain, fits}
use Rattle.cel_types.specs.Rows.{two_type}
use Rattle.cel_types.specs.Rules.{Selects, of_map, of_dyn, Indexes, at_number, at_key, dyn_at_number, dyn_at_key, LiesIn, in_list, in_map, in_dyn, table_function, Combines, by_and, by_or, by_equal, by_unequal, by_within, by_table}
use Rattle.cel_soundness.specs.WellTyped.{of_type, of_type_step, all_of_type, MayCome, RunsWell}
use Rattle.cel_soundness.proofs.Shapes.{seen, entry_of_type, entry_typed, bool_layer, int_layer, text_layer, list_layer, map_layer, bool_typed}
use Rattle.cel_soundness.proofs.Plain.{clear, and_left, and_right}
use Rattle.cel_soundness.proofs.Same.{fits_alone, absurd_plain, plain_bool, plain_int, plain_text}
use Rattle.cel_soundness.proofs.Table.{none_some, some_same}
use Rattle.cel_soundness.proofs.Calls.{two_well}

-- ---- outcomes one after another

pub well_then : (u t : CelType) (o : Outcome) (f : Value → Outcome) → RunsWell u o → ((v : Value) → of_type v u ≡ true → RunsWell t (f v))
    → RunsWell t (o >>= f)
well_then u t (Ok v) f h g = g v h
well_then u t (Err e) f h g = h

-- ---- types that fit

of_fitting : (t u : CelType) (v : Value) → plain t ≡ true → plain u ≡ true → fits t u ≡ true → of_type v t ≡ true → of_type v u ≡ true
of_fitting t u v p q f h = ap (of_type v) (sym (fits_alone t u p q f)) ∙ h

pub well_fitting : (t u : CelType) (o : Outcome) → plain t ≡ true → plain u ≡ true → fits t u ≡ true → RunsWell t o → RunsWell u o
well_fitting t u o p q f h = subst (λ x. RunsWell x o) (fits_alone t u p q f) h

-- ---- truth

-- a truth value, or an error that may come
abbrev pub RunsTrue : Or Bool → Type 0
RunsTrue (Ok b) = Unit {0}
RunsTrue (Err e) = MayCome e

bool_shape : (x : Shape) → of_type_step (seen x) CelType-F.Bool ≡ true → RunsTrue (truth_of x)
bool_shape (Value-F.Bool b) h = tt
bool_shape _ h = cc

pub tested_well : (o : Outcome) → RunsWell CelType.Bool o → RunsTrue (tested o)
tested_well (Ok v) h = bool_shape (out-Value v) (bool_layer v h)
tested_well (Err e) h = h

pub both_well : (a b : Or Bool) → RunsTrue a → RunsTrue b → RunsTrue (both a b)
both_well (Ok false) b h g = tt
both_well (Ok true) b h g = g
both_well (Err e) (Ok false) h g = tt
both_well (Err e) (Ok true) h g = h
both_well (Err e) (Err d) h g = h

pub either_well : (a b : Or Bool) → RunsTrue a → RunsTrue b → RunsTrue (either a b)
either_well (Ok true) b h g = tt
either_well (Ok false) b h g = g
either_well (Err e) (Ok true) h g = tt
either_well (Err e) (Ok false) h g = h
either_well (Err e) (Err d) h g = h

pub said_well : (a : Or Bool) → RunsTrue a → RunsWell CelType.Bool (said a)
said_well (Ok b) h = bool_typed b
said_well (Err e) h = h

choice_of : (t : CelType) (b : Or Bool) (x y : Outcome) → RunsTrue b → RunsWell t x → RunsWell t y → RunsWell t (b >>= λ v. cond v x y)
choice_of t (Ok true) x y h g k = g
choice_of t (Ok false) x y h g k = k
choice_of t (Err e) x y h g k = h

pub chosen_well : (t : CelType) (c x y : Outcome) → RunsWell CelType.Bool c → RunsWell t x → RunsWell t y → RunsWell t (chosen c x y)
chosen_well t c x y h g k = choice_of t (tested c) x y (tested_well c h) g k

-- ---- selection and indices

entry_found : (b : Bool) (t : CelType) (v : Value) (o : Option Value) → of_type v t ≡ true → RunsWell t (or_no_key o)
    → RunsWell t (or_no_key (cond b (Some v) o))
entry_found true t v o h g = h
entry_found false t v o h g = g

entry_well : (key : List ℕ) (es : List MapEntry) (t : CelType) → all_of_type (map entry_of_type es) t ≡ true → RunsWell t (or_no_key (entry_at key es))
entry_well key [] t h = tt
entry_well key (e ∷ es) t h =
    entry_found (bytes_eq key e.key) t e.value (entry_at key es)
    (sym (entry_typed e t) ∙ and_left (entry_of_type e t) (all_of_type (map entry_of_type es) t) h)
    (entry_well key es t (and_right (entry_of_type e t) (all_of_type (map entry_of_type es) t) h))

selected_layer : (f : List ℕ) (x : Shape) (t : CelType) → of_type_step (seen x) (CelType-F.Map t) ≡ true → RunsWell t (selected f x)
selected_layer f (Value-F.Map es) t h = entry_well f es t h
selected_layer f _ t h = cc

pub selected_well : (f : List ℕ) (v : Value) (r t : CelType) → Selects r t → plain r ≡ true → of_type v r ≡ true → RunsWell t (selected f (out-Value v))
selected_well f v r t (of_map u) p h = selected_layer f (out-Value v) u (map_layer v u h)
selected_well f v r t of_dyn p h = absurd_plain p

presence_layer : (f : List ℕ) (x : Shape) (t : CelType) → of_type_step (seen x) (CelType-F.Map t) ≡ true → RunsWell CelType.Bool (presence f x)
presence_layer f (Value-F.Map es) t h = bool_typed (has_key f es)
presence_layer f _ t h = cc

pub presence_well : (f : List ℕ) (v : Value) (r t : CelType) → Selects r t → plain r ≡ true → of_type v r ≡ true
    → RunsWell CelType.Bool (presence f (out-Value v))
presence_well f v r t (of_map u) p h = presence_layer f (out-Value v) u (map_layer v u h)
presence_well f v r t of_dyn p h = absurd_plain p

item_well : (xs : List Value) (i : ℕ) (t : CelType) → all_of_type (map of_type xs) t ≡ true → RunsWell t (item_or (slice_get xs i))
item_well [] i t h = tt
item_well (x ∷ xs) zero t h = and_left (of_type x t) (all_of_type (map of_type xs) t) h
item_well (x ∷ xs) (suc i) t h = item_well xs i t (and_right (of_type x t) (all_of_type (map of_type xs) t) h)

place_well : (xs : List Value) (i : ℤ) (t : CelType) → all_of_type (map of_type xs) t ≡ true → RunsWell t (item_at xs i)
place_well xs (pos i) t h = item_well xs i t h
place_well xs (negsuc i) t h = tt

number_layer : (x y : Shape) (t : CelType) → of_type_step (seen x) (CelType-F.List t) ≡ true → of_type_step (seen y) CelType-F.Int ≡ true
    → RunsWell t (indexed x y)
number_layer (Value-F.List xs) (Value-F.Int i) t h g = place_well xs i t h
number_layer (Value-F.List xs) _ t h g = cc
number_layer _ y t h g = cc

key_layer : (x y : Shape) (t : CelType) → of_type_step (seen x) (CelType-F.Map t) ≡ true → of_type_step (seen y) CelType-F.Text ≡ true
    → RunsWell t (indexed x y)
key_layer (Value-F.Map es) (Value-F.Text key) t h g = entry_well key es t h
key_layer (Value-F.Map es) _ t h g = cc
key_layer _ y t h g = cc

pub indexed_well : (v k : Value) (r u t : CelType) → Indexes r u t → plain r ≡ true → plain u ≡ true → of_type v r ≡ true → of_type k u ≡ true
    → RunsWell t (indexed (out-Value v) (out-Value k))
indexed_well v k r u t (at_number s f) p q h g =
    number_layer (out-Value v) (out-Value k) s (list_layer v s h) (int_layer k (of_fitting u CelType.Int k q plain_int f g))
indexed_well v k r u t (at_key s f) p q h g =
    key_layer (out-Value v) (out-Value k) s (map_layer v s h) (text_layer k (of_fitting u CelType.Text k q plain_text f g))
indexed_well v k r u t (dyn_at_number f) p q h g = absurd_plain p
indexed_well v k r u t (dyn_at_key f) p q h g = absurd_plain p

-- ---- operators

unless_well : (a b : Value) (t u v : CelType) (o : Outcome) → plain t ≡ true → plain u ≡ true → of_type a t ≡ true → of_type b u ≡ true → RunsWell v o
    → RunsWell v (unless_opaque a b o)
unless_well a b t u v o p q h g w =
    subst (λ c. RunsWell v (cond (c || holds_opaque b) (Err EvalError.NoOverload) o)) (sym (clear a t p h))
    (subst (λ c. RunsWell v (cond c (Err EvalError.NoOverload) o)) (sym (clear b u q g)) w)

list_holds : (v : Value) (x y : Shape) (t : CelType) → of_type_step (seen y) (CelType-F.List t) ≡ true → RunsWell CelType.Bool (lies_in v x y)
list_holds v x (Value-F.List xs) t h = bool_typed (any_equal v xs)
list_holds v x _ t h = cc

map_holds : (v : Value) (x y : Shape) (t : CelType) → of_type_step (seen x) CelType-F.Text ≡ true → of_type_step (seen y) (CelType-F.Map t) ≡ true
    → RunsWell CelType.Bool (lies_in v x y)
map_holds v (Value-F.Text key) (Value-F.Map es) t g h = bool_typed (has_key key es)
map_holds v (Value-F.Text key) _ t g h = cc
map_holds v _ y t g h = cc

within_well : (a b : Value) (t u : CelType) → LiesIn t u → plain t ≡ true → plain u ≡ true → of_type a t ≡ true → of_type b u ≡ true
    → RunsWell CelType.Bool (lies_in a (out-Value a) (out-Value b))
within_well a b t u (in_list s) p q h g = list_holds a (out-Value a) (out-Value b) s (list_layer b s g)
within_well a b t u (in_map s f) p q h g =
    map_holds a (out-Value a) (out-Value b) s (text_layer a (of_fitting t CelType.Text a p plain_text f h)) (map_layer b s g)
within_well a b t u in_dyn p q h g = absurd_plain q

strict_well : (op : BinaryOp) (o w : Outcome) (t u v : CelType) → RunsWell t o → RunsWell u w
    → ((a b : Value) → of_type a t ≡ true → of_type b u ≡ true → RunsWell v (strict op a b)) → RunsWell v (o >>= λ x. w >>= λ y. strict op x y)
strict_well op o w t u v h g each =
    well_then t v o (λ x. w >>= λ y. strict op x y) h (λ x k. well_then u v w (λ y. strict op x y) g (λ y l. each x y k l))

-- an operator of the table is its function, and takes both operands
applied_operator : (op : BinaryOp) (f : Function) (a b : Value) → table_function op ≡ Some f → strict op a b ≡ applied f (a ∷ b ∷ [])
applied_operator BinaryOp.Lt f a b is = ap (λ g. applied g (a ∷ b ∷ [])) (some_same Function.Lt f is)
applied_operator BinaryOp.Le f a b is = ap (λ g. applied g (a ∷ b ∷ [])) (some_same Function.Le f is)
applied_operator BinaryOp.Gt f a b is = ap (λ g. applied g (a ∷ b ∷ [])) (some_same Function.Gt f is)
applied_operator BinaryOp.Ge f a b is = ap (λ g. applied g (a ∷ b ∷ [])) (some_same Function.Ge f is)
applied_operator BinaryOp.Add f a b is = ap (λ g. applied g (a ∷ b ∷ [])) (some_same Function.Add f is)
applied_operator BinaryOp.Sub f a b is = ap (λ g. applied g (a ∷ b ∷ [])) (some_same Function.Sub f is)
applied_operator BinaryOp.Mul f a b is = ap (λ g. applied g (a ∷ b ∷ [])) (some_same Function.Mul f is)
applied_operator BinaryOp.Div f a b is = ap (λ g. applied g (a ∷ b ∷ [])) (some_same Function.Div f is)
applied_operator BinaryOp.Rem f a b is = ap (λ g. applied g (a ∷ b ∷ [])) (some_same Function.Rem f is)
applied_operator _ f a b is = absurd (none_some f is)

takes_both : (op : BinaryOp) (f : Function) → table_function op ≡ Some f → logic op ≡ Logic.Neither
takes_both BinaryOp.And f is = absurd (none_some f is)
takes_both BinaryOp.Or f is = absurd (none_some f is)
takes_both _ f is = refl

table_well : (op : BinaryOp) (f : Function) (o w : Outcome) (t u v : CelType) → table_function op ≡ Some f → two_type f t u ≡ Some v → plain t ≡ true
    → plain u ≡ true → plain v ≡ true → RunsWell t o → RunsWell u w → RunsWell v (binary op o w)
table_well op f o w t u v is so p q k h g =
    subst (RunsWell v) (sym (ap (λ l. binary_by l op o w) (takes_both op f is)))
    (strict_well op o w t u v h g (λ a b i j. subst (RunsWell v) (sym (applied_operator op f a b is)) (two_well f a b t u v p q k i j so)))

pub binary_well : (op : BinaryOp) (o w : Outcome) (t u v : CelType) → Combines op t u v → plain t ≡ true → plain u ≡ true → plain v ≡ true → RunsWell t o
    → RunsWell u w → RunsWell v (binary op o w)
binary_well op o w t u v (by_and i j) p q k h g =
    said_well (both (tested o) (tested w)) (both_well (tested o) (tested w) (tested_well o (well_fitting t CelType.Bool o p plain_bool i h))
    (tested_well w (well_fitting u CelType.Bool w q plain_bool j g)))
binary_well op o w t u v (by_or i j) p q k h g =
    said_well (either (tested o) (tested w)) (either_well (tested o) (tested w) (tested_well o (well_fitting t CelType.Bool o p plain_bool i h))
    (tested_well w (well_fitting u CelType.Bool w q plain_bool j g)))
binary_well op o w t u v (by_equal i) p q k h g =
    strict_well BinaryOp.Eq o w t u CelType.Bool h g (λ a b x y. unless_well a b t u CelType.Bool (Ok (Value.Bool (equal a b))) p q x y
    (bool_typed (equal a b)))
binary_well op o w t u v (by_unequal i) p q k h g =
    strict_well BinaryOp.Ne o w t u CelType.Bool h g (λ a b x y. unless_well a b t u CelType.Bool (Ok (Value.Bool (not (equal a b)))) p q x y
    (bool_typed (not (equal a b))))
binary_well op o w t u v (by_within i) p q k h g =
    strict_well BinaryOp.Within o w t u CelType.Bool h g
    (λ a b x y. unless_well a b t u CelType.Bool (lies_in a (out-Value a) (out-Value b)) p q x y (within_well a b t u i p q x y))
binary_well op o w t u v (by_table {f = f} is so) p q k h g = table_well op f o w t u v is so p q k h g
