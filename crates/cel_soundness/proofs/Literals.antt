-- List and map literals run well, and so do the arguments of a call.
use Rattle.std.proofs.Common.{◌≡◌, ℕ, Bool, true, false, List, [], ◌∷◌, map, Some, Ok, Err, cond, refl, sym, ap, ◌∙◌}
use Rattle.std.specs.Cmp.Lexicographic.{slice_cmp}
use Rattle.std.specs.Ordering.{nat_cmp, is_lt}
use Rattle.cel_values.specs.declared.error.EvalError.{EvalError}
use Rattle.cel_values.specs.declared.value.Value.{Value, out-Value}
use Rattle.cel_values.specs.declared.value.Value.TheOpen.{Value-F}
use Rattle.cel_values.specs.declared.value.Value.TheViews as made
use Rattle.cel_values.specs.declared.value.MapEntry.{MapEntry}
use Rattle.cel_builtins.specs.declared.function.Function.{Function}
use Rattle.cel_builtins.specs.Functions.{applied}
use Rattle.cel_builtins.specs.Outcomes.{Or, Outcome, Shape, ◌>>=◌, in_order, weighed}
use Rattle.cel_eval.specs.Denotation.{has_key, put_entry, put_pair, put_pairs, list_of}
use Rattle.cel_types.specs.declared.cel_type.CelType.{CelType}
use Rattle.cel_types.specs.declared.cel_type.CelType.TheOpen.{CelType-F}
use Rattle.cel_types.specs.declared.cel_type.CelType.TheViews as types
use Rattle.cel_types.specs.Types.{plain}
use Rattle.cel_types.specs.Rows.{function_type}
use Rattle.cel_soundness.specs.WellTyped.{of_type, of_type_step, all_of_type, MayCome, RunsWell}
use Rattle.cel_soundness.proofs.Shapes.{seen, entry_of_type, entry_typed, text_layer, list_typed, map_typed}
use Rattle.cel_soundness.proofs.Plain.{and_left, and_right, and_both}
use Rattle.cel_soundness.proofs.Same.{AllAre}
use Rattle.cel_soundness.proofs.Table.{well_weighed}
use Rattle.cel_soundness.proofs.Calls.{AreOf, no_values, value_of, function_well}

-- ---- values one after another

-- a value of each type, or an error that may come
abbrev pub RunsEach : List CelType → Or (List Value) → Type 0
RunsEach ts (Ok vs) = AreOf vs ts
RunsEach ts (Err e) = MayCome e

each_later : (v : Value) (rest : Or (List Value)) (t : CelType) (ts : List CelType) → plain t ≡ true → of_type v t ≡ true → RunsEach ts rest
    → RunsEach (t ∷ ts) (rest >>= λ vs. Ok (v ∷ vs))
each_later v (Ok vs) t ts p h g = value_of p h g
each_later v (Err e) t ts p h g = g

pub each_well : (o : Outcome) (os : List Outcome) (t : CelType) (ts : List CelType) → plain t ≡ true → RunsWell t o → RunsEach ts (in_order os)
    → RunsEach (t ∷ ts) (in_order (o ∷ os))
each_well (Ok v) os t ts p h g = each_later v (in_order os) t ts p h g
each_well (Err e) os t ts p h g = h

pub call_well : (f : Function) (r : Or (List Value)) (ts : List CelType) (v : CelType) → plain v ≡ true → function_type f ts ≡ Some v → RunsEach ts r
    → RunsWell v (r >>= applied f)
call_well f (Ok vs) ts v p is h = function_well f vs ts v p h is
call_well f (Err e) ts v p is h = h

-- ---- lists

-- values of a type, or an error that may come
abbrev pub RunsAll : CelType → Or (List Value) → Type 0
RunsAll t (Ok vs) = all_of_type (map of_type vs) t ≡ true
RunsAll t (Err e) = MayCome e

all_values : (vs : List Value) (ts : List CelType) (t : CelType) → AreOf vs ts → AllAre t ts → all_of_type (map of_type vs) t ≡ true
all_values vs ts t no_values k = refl
all_values vs ts t (value_of {v = v} {t = u} {vs = ws} {ts = us} p h hs) k =
    and_both (of_type v t) (all_of_type (map of_type ws) t) (ap (of_type v) (sym k.0) ∙ h) (all_values ws us t hs k.1)

pub all_each : (r : Or (List Value)) (ts : List CelType) (t : CelType) → RunsEach ts r → AllAre t ts → RunsAll t r
all_each (Ok vs) ts t h k = all_values vs ts t h k
all_each (Err e) ts t h k = h

pub list_well : (r : Or (List Value)) (t : CelType) → RunsAll t r → RunsWell (types.List t) (list_of r)
list_well (Ok vs) t h = well_weighed (made.List vs) (types.List t) (list_typed vs t h)
list_well (Err e) t h = h

-- ---- maps

-- pairs of a text and a value of a type
abbrev pub PairsOf : CelType → List (Value × Value) → Type 0
PairsOf t [] = Unit {0}
PairsOf t (q ∷ qs) = ((of_type q.0 CelType.Text ≡ true) × (of_type q.1 t ≡ true)) × PairsOf t qs

-- such pairs, or an error that may come
abbrev pub RunsPairs : CelType → Or (List (Value × Value)) → Type 0
RunsPairs t (Ok qs) = PairsOf t qs
RunsPairs t (Err e) = MayCome e

pairs_later : (q : Value × Value) (rest : Or (List (Value × Value))) (t : CelType) → of_type q.0 CelType.Text ≡ true → of_type q.1 t ≡ true
    → RunsPairs t rest → RunsPairs t (rest >>= λ qs. Ok (q ∷ qs))
pairs_later q (Ok qs) t h g k = ((h, g), k)
pairs_later q (Err e) t h g k = k

pair_behind : (k : Value) (o : Outcome) (os : List (Or (Value × Value))) (t : CelType) → of_type k CelType.Text ≡ true → RunsWell t o
    → RunsPairs t (in_order os) → RunsPairs t (in_order ((o >>= λ v. Ok (k, v)) ∷ os))
pair_behind k (Ok v) os t h g i = pairs_later (k, v) (in_order os) t h g i
pair_behind k (Err e) os t h g i = g

pub pairs_well : (key o : Outcome) (os : List (Or (Value × Value))) (t : CelType) → RunsWell CelType.Text key → RunsWell t o → RunsPairs t (in_order os)
    → RunsPairs t (in_order ((key >>= λ k. o >>= λ v. Ok (k, v)) ∷ os))
pairs_well (Ok k) o os t h g i = pair_behind k o os t h g i
pairs_well (Err e) o os t h g i = h

abbrev EntriesOf : CelType → List MapEntry → Type 0
EntriesOf t es = all_of_type (map entry_of_type es) t ≡ true

put_at : (b : Bool) (key : List ℕ) (v : Value) (e : MapEntry) (es more : List MapEntry) (t : CelType) → of_type v t ≡ true → EntriesOf t (e ∷ es)
    → EntriesOf t more → EntriesOf t (cond b (record { key = key; value = v } ∷ e ∷ es) (e ∷ more))
put_at true key v e es more t h g k =
    and_both (entry_of_type (record { key = key; value = v }) t) (all_of_type (map entry_of_type (e ∷ es)) t)
    (entry_typed (record { key = key; value = v }) t ∙ h) g
put_at false key v e es more t h g k =
    and_both (entry_of_type e t) (all_of_type (map entry_of_type more) t) (and_left (entry_of_type e t) (all_of_type (map entry_of_type es) t) g) k

put_well : (key : List ℕ) (v : Value) (es : List MapEntry) (t : CelType) → of_type v t ≡ true → EntriesOf t es → EntriesOf t (put_entry key v es)
put_well key v [] t h g = and_both (entry_of_type (record { key = key; value = v }) t) true (entry_typed (record { key = key; value = v }) t ∙ h) refl
put_well key v (e ∷ es) t h g =
    put_at (is_lt (slice_cmp nat_cmp key e.key)) key v e es (put_entry key v es) t h g
    (put_well key v es t h (and_right (entry_of_type e t) (all_of_type (map entry_of_type es) t) g))

abbrev RunsEntries : CelType → Or (List MapEntry) → Type 0
RunsEntries t (Ok es) = EntriesOf t es
RunsEntries t (Err e) = MayCome e

unless_there : (b : Bool) (es : List MapEntry) (t : CelType) → EntriesOf t es → RunsEntries t (cond b (Err EvalError.BadText) (Ok es))
unless_there true es t h = tt
unless_there false es t h = h

put_layer : (x : Shape) (v : Value) (es : List MapEntry) (t : CelType) → of_type_step (seen x) CelType-F.Text ≡ true → of_type v t ≡ true → EntriesOf t es
    → RunsEntries t (put_pair x v es)
put_layer (Value-F.Text key) v es t k h g = unless_there (has_key key es) (put_entry key v es) t (put_well key v es t h g)
put_layer _ v es t k h g = cc

entries_then : (r : Or (List MapEntry)) (f : List MapEntry → Or (List MapEntry)) (t : CelType) → RunsEntries t r
    → ((es : List MapEntry) → EntriesOf t es → RunsEntries t (f es)) → RunsEntries t (r >>= f)
entries_then (Ok es) f t h g = g es h
entries_then (Err e) f t h g = h

put_all : (es : List MapEntry) (qs : List (Value × Value)) (t : CelType) → EntriesOf t es → PairsOf t qs → RunsEntries t (put_pairs es qs)
put_all es [] t h g = h
put_all es (q ∷ qs) t h g =
    entries_then (put_pair (out-Value q.0) q.1 es) (λ more. put_pairs more qs) t (put_layer (out-Value q.0) q.1 es t (text_layer q.0 g.0.0) g.0.1 h)
    (λ more k. put_all more qs t k g.1)

entries_well : (r : Or (List MapEntry)) (t : CelType) → RunsEntries t r → RunsWell (types.Map t) (r >>= λ es. weighed (made.Map es))
entries_well (Ok es) t h = well_weighed (made.Map es) (types.Map t) (map_typed es t h)
entries_well (Err e) t h = h

pub map_well : (r : Or (List (Value × Value))) (t : CelType) → RunsPairs t r
    → RunsWell (types.Map t) (r >>= λ qs. put_pairs [] qs >>= λ es. weighed (made.Map es))
map_well (Ok qs) t h = entries_well (put_pairs [] qs) t (put_all [] qs t refl h)
map_well (Err e) t h = h
