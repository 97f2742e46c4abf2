-- Macros run well.
use Rattle.std.proofs.Common.{◌≡◌, ℕ, nat_eq, nat_le, Bool, true, false, List, [], ◌∷◌, ◌++◌, map, length, Option, Some, Ok, Err, cond, refl, sym, ap, ◌∙◌}
use Rattle.std.specs.Prelude.{count_by}
use Rattle.std.specs.Str.{bytes_eq}
use Rattle.cel_values.specs.declared.error.EvalError.{EvalError}
use Rattle.cel_values.specs.declared.expr.MacroKind.{MacroKind}
use Rattle.cel_values.specs.declared.value.Value.{Value, out-Value}
use Rattle.cel_values.specs.declared.value.Value.TheOpen.{Value-F}
use Rattle.cel_values.specs.declared.value.MapEntry.{MapEntry}
use Rattle.cel_builtins.specs.Outcomes.{Or, Outcome, Shape, ◌>>=◌, in_order}
use Rattle.cel_eval.specs.Denotation.{Env, Meaning, lookup, or_unbound, with_item, tested, limited, key_of, range_of, all_of, some_of, one_of, is_yes, kept, taken, gathered, test_of, tests, kept_of, passes, taken_of, over}
use Rattle.cel_types.specs.declared.cel_type.CelType.{CelType}
use Rattle.cel_types.specs.declared.cel_type.CelType.TheOpen.{CelType-F}
use Rattle.cel_types.specs.Types.{plain}
use Rattle.cel_types.specs.Rules.{Decls, declared, with_variable, Ranges, over_list, over_map, over_dyn, Gathers, by_all, by_exists, by_exists_one, by_filter, by_map}
use Rattle.cel_soundness.specs.WellTyped.{of_type, of_type_step, all_of_type, Suits, MayCome, RunsWell}
use Rattle.cel_soundness.proofs.Shapes.{seen, list_layer, map_layer, text_typed}
use Rattle.cel_soundness.proofs.Plain.{and_left, and_right, and_both}
use Rattle.cel_soundness.proofs.Same.{absurd_plain, plain_bool}
use Rattle.cel_soundness.proofs.Table.{some_same}
use Rattle.cel_soundness.proofs.Calls.{all_append}
use Rattle.cel_soundness.proofs.Steps.{RunsTrue, tested_well, both_well, either_well, said_well, well_fitting}
use Rattle.cel_soundness.proofs.Literals.{RunsAll, list_well}

-- ---- ranges

within : (b : Bool) (vs : List Value) (t : CelType) → all_of_type (map of_type vs) t ≡ true → RunsAll t (cond b (Ok vs) (Err EvalError.TooLong))
within true vs t h = h
within false vs t h = tt

limited_well : (vs : List Value) (t : CelType) → all_of_type (map of_type vs) t ≡ true → RunsAll t (limited vs)
limited_well vs t h = within (nat_le (length vs) 256) vs t h

list_range : (x : Shape) (t : CelType) → of_type_step (seen x) (CelType-F.List t) ≡ true → RunsAll t (range_of x)
list_range (Value-F.List vs) t h = limited_well vs t h
list_range _ t h = cc

keys_typed : (es : List MapEntry) → all_of_type (map of_type (map key_of es)) CelType.Text ≡ true
keys_typed [] = refl
keys_typed (e ∷ es) = and_both (of_type (key_of e) CelType.Text) (all_of_type (map of_type (map key_of es)) CelType.Text) (text_typed e.key) (keys_typed es)

map_range : (x : Shape) (t : CelType) → of_type_step (seen x) (CelType-F.Map t) ≡ true → RunsAll CelType.Text (range_of x)
map_range (Value-F.Map es) t h = limited_well (map key_of es) CelType.Text (keys_typed es)
map_range _ t h = cc

pub ranged : (v : Value) (r t : CelType) → Ranges r t → plain r ≡ true → of_type v r ≡ true → RunsAll t (range_of (out-Value v))
ranged v r t (over_list u) p h = list_range (out-Value v) u (list_layer v u h)
ranged v r t (over_map u) p h = map_range (out-Value v) u (map_layer v u h)
ranged v r t over_dyn p h = absurd_plain p

-- ---- the variable

suits_at : (b : Bool) (d : Decls) (env : Env) (m : List ℕ) (v : Value) (t u : CelType) → of_type v t ≡ true → Suits d env
    → cond b (Some t) (declared m d) ≡ Some u → (w : Value) × (or_unbound (cond b (Some v) (lookup m env)) ≡ Ok w) × (of_type w u ≡ true)
suits_at true d env m v t u h s is = (v, refl, ap (of_type v) (sym (some_same t u is)) ∙ h)
suits_at false d env m v t u h s is = s m u is

-- the environment of a macro's arguments suits the declarations with its variable
pub suits_with : (d : Decls) (env : Env) (n : List ℕ) (v : Value) (t : CelType) → of_type v t ≡ true → Suits d env
    → Suits (with_variable n t d) (with_item n v env)
suits_with d env n v t h s m u is = suits_at (bytes_eq m n) d env m v t u h s is

-- ---- tests of each item

-- each is a truth value, or an error that may come
abbrev EachTrue : List (Or Bool) → Type 0
EachTrue [] = Unit {0}
EachTrue (t ∷ ts) = RunsTrue t × EachTrue ts

tests_well : (f : Value → Or Bool) (vs : List Value) (t : CelType) → ((v : Value) → of_type v t ≡ true → RunsTrue (f v))
    → all_of_type (map of_type vs) t ≡ true → EachTrue (map f vs)
tests_well f [] t each h = tt
tests_well f (v ∷ vs) t each h =
    let rest = all_of_type (map of_type vs) t in
    (each v (and_left (of_type v t) rest h), tests_well f vs t each (and_right (of_type v t) rest h))

all_well : (ts : List (Or Bool)) → EachTrue ts → RunsTrue (all_of ts)
all_well [] h = tt
all_well (t ∷ ts) h = both_well t (all_of ts) h.0 (all_well ts h.1)

some_well : (ts : List (Or Bool)) → EachTrue ts → RunsTrue (some_of ts)
some_well [] h = tt
some_well (t ∷ ts) h = either_well t (some_of ts) h.0 (some_well ts h.1)

-- something, or an error that may come
abbrev RunsAny : {A : Type 0} → Or A → Type 0
RunsAny (Ok x) = Unit {0}
RunsAny (Err e) = MayCome e

any_then : {A B : Type 0} (o : Or A) (f : A → B) → RunsAny o → RunsAny (o >>= λ x. Ok (f x))
any_then (Ok x) f h = tt
any_then (Err e) f h = h

in_order_any : (ts : List (Or Bool)) → EachTrue ts → RunsAny (in_order ts)
in_order_any [] h = tt
in_order_any (Ok b ∷ ts) h = any_then (in_order ts) (λ bs. b ∷ bs) (in_order_any ts h.1)
in_order_any (Err e ∷ ts) h = h.0

counted : (o : Or (List Bool)) → RunsAny o → RunsTrue (o >>= λ bs. Ok (nat_eq (count_by is_yes bs) 1))
counted (Ok bs) h = tt
counted (Err e) h = h

one_well : (ts : List (Or Bool)) → EachTrue ts → RunsTrue (one_of ts)
one_well ts h = counted (in_order ts) (in_order_any ts h)

-- ---- what is gathered of each item

appended : (vs : List Value) (rest : Or (List Value)) (t : CelType) → all_of_type (map of_type vs) t ≡ true → RunsAll t rest
    → RunsAll t (rest >>= λ more. Ok (vs ++ more))
appended vs (Ok ws) t h g = all_append vs ws t h g
appended vs (Err e) t h g = g

gathered_later : (r : Or (List Value)) (rs : List (Or (List Value))) (t : CelType) → RunsAll t r → RunsAll t (gathered rs) → RunsAll t (gathered (r ∷ rs))
gathered_later (Ok vs) rs t h g = appended vs (gathered rs) t h g
gathered_later (Err e) rs t h g = h

gathered_well : (f : Value → Or (List Value)) (vs : List Value) (t u : CelType) → ((v : Value) → of_type v t ≡ true → RunsAll u (f v))
    → all_of_type (map of_type vs) t ≡ true → RunsAll u (gathered (map f vs))
gathered_well f [] t u each h = refl
gathered_well f (v ∷ vs) t u each h =
    let rest = all_of_type (map of_type vs) t in
    gathered_later (f v) (map f vs) u (each v (and_left (of_type v t) rest h)) (gathered_well f vs t u each (and_right (of_type v t) rest h))

kept_well : (v : Value) (test : Or Bool) (t : CelType) → of_type v t ≡ true → RunsTrue test → RunsAll t (kept v test)
kept_well v (Ok true) t h g = and_both (of_type v t) true h refl
kept_well v (Ok false) t h g = refl
kept_well v (Err e) t h g = g

alone : (o : Outcome) (t : CelType) → RunsWell t o → RunsAll t (o >>= λ v. Ok (v ∷ []))
alone (Ok v) t h = and_both (of_type v t) true h refl
alone (Err e) t h = h

taken_well : (test : Or Bool) (o : Outcome) (t : CelType) → RunsTrue test → RunsWell t o → RunsAll t (taken test o)
taken_well (Ok true) o t h g = alone o t g
taken_well (Ok false) o t h g = refl
taken_well (Err e) o t h g = h

-- ---- the macro

over_items : (kind : MacroKind) (n : List ℕ) (test : Option Meaning) (p : Meaning) (env : Env) (t u v : CelType) (vs : List Value) → Gathers kind t u v
    → plain u ≡ true
    → ((w : Value) → of_type w t ≡ true → RunsTrue (tested (passes test (with_item n w env)))) →
    ((w : Value) → of_type w t ≡ true → RunsWell u (p (with_item n w env)))
    → all_of_type (map of_type vs) t ≡ true → RunsWell v (over kind n test p env vs)
over_items kind n test p env t u v vs (by_all f) q passing each h =
    said_well (all_of (tests n p env vs)) (all_well (tests n p env vs)
    (tests_well (test_of n p env) vs t (λ w k. tested_well (p (with_item n w env))
    (well_fitting u CelType.Bool (p (with_item n w env)) q plain_bool f (each w k))) h))
over_items kind n test p env t u v vs (by_exists f) q passing each h =
    said_well (some_of (tests n p env vs)) (some_well (tests n p env vs)
    (tests_well (test_of n p env) vs t (λ w k. tested_well (p (with_item n w env))
    (well_fitting u CelType.Bool (p (with_item n w env)) q plain_bool f (each w k))) h))
over_items kind n test p env t u v vs (by_exists_one f) q passing each h =
    said_well (one_of (tests n p env vs)) (one_well (tests n p env vs)
    (tests_well (test_of n p env) vs t (λ w k. tested_well (p (with_item n w env))
    (well_fitting u CelType.Bool (p (with_item n w env)) q plain_bool f (each w k))) h))
over_items kind n test p env t u v vs (by_filter f) q passing each h =
    list_well (gathered (map (kept_of n p env) vs)) t (gathered_well (kept_of n p env) vs t t
    (λ w k. kept_well w (tested (p (with_item n w env))) t k
    (tested_well (p (with_item n w env)) (well_fitting u CelType.Bool (p (with_item n w env)) q plain_bool f (each w k)))) h)
over_items kind n test p env t u v vs by_map q passing each h =
    list_well (gathered (map (taken_of n test p env) vs)) u (gathered_well (taken_of n test p env) vs t u
    (λ w k. taken_well (tested (passes test (with_item n w env))) (p (with_item n w env)) u (passing w k) (each w k)) h)

pub over_well : (kind : MacroKind) (n : List ℕ) (test : Option Meaning) (p : Meaning) (env : Env) (t u v : CelType) (items : Or (List Value))
    → Gathers kind t u v → plain u ≡ true
    → ((w : Value) → of_type w t ≡ true → RunsTrue (tested (passes test (with_item n w env)))) →
    ((w : Value) → of_type w t ≡ true → RunsWell u (p (with_item n w env)))
    → RunsAll t items → RunsWell v (items >>= over kind n test p env)
over_well kind n test p env t u v (Ok vs) g q passing each h = over_items kind n test p env t u v vs g q passing each h
over_well kind n test p env t u v (Err e) g q passing each h = h
