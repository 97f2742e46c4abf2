-- The value of an expression depends on the names that occur free in it alone.
use Rattle.std.proofs.Common.{◌≡◌, ℕ, Bool, true, false, not, ◌&&◌, ◌||◌, cond, List, [], ◌∷◌, ◌++◌, map, Option, None, Some, Ok, Err, refl, sym, ap, ◌∙◌, subst}
use Rattle.std.proofs.lemmas.Bool.{or_left, or_right, both_ways, false_from_ne_true}
use Rattle.std.proofs.lemmas.Slice.Eq.{bytes_eq-Decides}
use Rattle.std.specs.List.{list_any, AllByRecursion}
use Rattle.std.specs.Option.{IsSome}
use Rattle.std.specs.Str.{bytes_eq}
use Rattle.cel_values.specs.declared.expr.MacroKind.{MacroKind}
use Rattle.cel_values.specs.declared.expr.Expr.{Expr}
use Rattle.cel_values.specs.declared.expr.Expr.TheViews.{roll-Expr}
use Rattle.cel_values.specs.declared.expr.Expr.TheOpen.{Expr-F, MapPair-F}
use Rattle.cel_values.specs.declared.expr.Expr.TheFolds.{fold-roll-Expr, fold-roll-MapPair, fold-MapPair, map-Expr, ind-Expr}
use Rattle.cel_values.specs.declared.expr.MapPair.{MapPair}
use Rattle.cel_values.specs.declared.value.Value.{Value, out-Value}
use Rattle.cel_values.specs.declared.value.Value.TheViews as made
use Rattle.cel_builtins.specs.declared.function.Function.{Function}
use Rattle.cel_builtins.specs.Functions.{applied}
use Rattle.cel_builtins.specs.Outcomes.{Or, ◌>>=◌, in_order, weighed}
use Rattle.cel_eval.specs.Denotation.{Env, Meaning, PairMeaning, meaning_step, pair_step, denotation, lookup, or_unbound, with_item, selected, presence, indexed, put_pairs, binary, chosen, called, range_of, over, passes, test_of, kept, kept_of, taken, taken_of, tested, said, all_of, some_of, one_of, gathered, list_of, each, is_yes}
use Rattle.cel_eval.specs.FreeNames.{free_step, free_in_pair, occurs_free, Agree}
use Rattle.cel_eval.proofs.Layers.{map_same}

-- ---- environments

-- the names of a set stand for the same in both
abbrev Alike : (List ℕ → Bool) → Env → Env → Type 0
Alike among env other = (name : List ℕ) → among name ≡ true → lookup name env ≡ lookup name other

alike_left : (p q : List ℕ → Bool) (env other : Env) → Alike (λ n. p n || q n) env other → Alike p env other
alike_left p q env other h name k = h name (or_left (p name) (q name) k)

alike_right : (p q : List ℕ → Bool) (env other : Env) → Alike (λ n. p n || q n) env other → Alike q env other
alike_right p q env other h name k = h name (or_right (p name) (q name) k)

behind_item : (is q : Bool) (x y z : Option Value) → q ≡ true → (not is && q ≡ true → y ≡ z) → cond is x y ≡ cond is x z
behind_item true q x y z k h = refl
behind_item false q x y z k h = h k

alike_with : (variable : List ℕ) (v : Value) (p : List ℕ → Bool) (env other : Env) → Alike (λ n. not (bytes_eq n variable) && p n) env other
    → Alike p (with_item variable v env) (with_item variable v other)
alike_with variable v p env other h name k = behind_item (bytes_eq name variable) (p name) (Some v) (lookup name env) (lookup name other) k (h name)

-- ---- macros

bind_same : {A B : Type 0} (m : Or A) (f g : A → Or B) → ((x : A) → f x ≡ g x) → (m >>= f) ≡ (m >>= g)
bind_same (Ok x) f g h = h x
bind_same (Err e) f g h = refl

over_same : (kind : MacroKind) (n : List ℕ) (test : Option Meaning) (p : Meaning) (env other : Env)
    → ((v : Value) → passes test (with_item n v env) ≡ passes test (with_item n v other))
    → ((v : Value) → p (with_item n v env) ≡ p (with_item n v other))
    → (items : List Value) → over kind n test p env items ≡ over kind n test p other items
over_same MacroKind.All n test p env other t h items = ap (λ ts. said (all_of ts)) (map_same (test_of n p env) (test_of n p other) (λ v. ap tested (h v)) items)
over_same MacroKind.Exists n test p env other t h items = ap (λ ts. said (some_of ts)) (map_same (test_of n p env) (test_of n p other) (λ v. ap tested (h v)) items)
over_same MacroKind.ExistsOne n test p env other t h items = ap (λ ts. said (one_of ts)) (map_same (test_of n p env) (test_of n p other) (λ v. ap tested (h v)) items)
over_same MacroKind.Filter n test p env other t h items = ap (λ ts. list_of (gathered ts)) (map_same (kept_of n p env) (kept_of n p other) (λ v. ap (λ o. kept v (tested o)) (h v)) items)
over_same MacroKind.Map n test p env other t h items =
    ap (λ ts. list_of (gathered ts)) (map_same (taken_of n test p env) (taken_of n test p other)
    (λ v. ap (λ o. taken (tested o) (p (with_item n v env))) (t v) ∙ ap (λ o. taken (tested (passes test (with_item n v other))) o) (h v)) items)

-- ---- trees

abbrev pair_occurs : List ℕ → MapPair → Bool
pair_occurs name = fold-MapPair Bool Bool (free_step name) free_in_pair

abbrev pair_means : MapPair → PairMeaning
pair_means = fold-MapPair Meaning PairMeaning meaning_step pair_step

abbrev Depends : Expr → Type 0
Depends e = (env other : Env) → Agree e env other → denotation e env ≡ denotation e other

abbrev PairDepends : MapPair → Type 0
PairDepends p = (env other : Env) → Alike (λ n. pair_occurs n p) env other → pair_means p env ≡ pair_means p other

abbrev One : Type 0
One = (e : Expr) × Depends e

abbrev Pair : Type 0
Pair = (p : MapPair) × PairDepends p

abbrev parts : Expr-F One Pair → Expr-F Expr MapPair
parts y = map-Expr One Pair Expr MapPair (λ e. e.0) (λ p. p.0) y

-- whether a name occurs free in a layer, and what the layer means
abbrev occurs_at : List ℕ → Expr-F Expr MapPair → Bool
occurs_at name x = free_step name (map-Expr Expr MapPair Bool Bool (occurs_free name) (pair_occurs name) x)

abbrev means : Expr-F Expr MapPair → Meaning
means x = meaning_step (map-Expr Expr MapPair Meaning PairMeaning denotation pair_means x)

each_alike : (es : List One) (env other : Env) → Alike (λ n. list_any is_yes (map (occurs_free n) (map (λ e. e.0) es))) env other
    → each (map denotation (map (λ e. e.0) es)) env ≡ each (map denotation (map (λ e. e.0) es)) other
each_alike [] env other h = refl
each_alike (e ∷ es) env other h =
    ap (λ o. o ∷ each (map denotation (map (λ x. x.0) es)) env) (e.1 env other (alike_left _ _ env other h))
    ∙ ap (λ os. denotation e.0 other ∷ os) (each_alike es env other (alike_right _ _ env other h))

pairs_alike : (ps : List Pair) (env other : Env) → Alike (λ n. list_any is_yes (map (pair_occurs n) (map (λ p. p.0) ps))) env other
    → each (map pair_means (map (λ p. p.0) ps)) env ≡ each (map pair_means (map (λ p. p.0) ps)) other
pairs_alike [] env other h = refl
pairs_alike (p ∷ ps) env other h =
    ap (λ o. o ∷ each (map pair_means (map (λ x. x.0) ps)) env) (p.1 env other (alike_left _ _ env other h))
    ∙ ap (λ os. pair_means p.0 other ∷ os) (pairs_alike ps env other (alike_right _ _ env other h))

-- a macro over what its range means
macro_alike : (kind : MacroKind) (range : One) (n : List ℕ) (test : Option Meaning) (p : Meaning) (env other : Env)
    → Agree range.0 env other
    → ((v : Value) → passes test (with_item n v env) ≡ passes test (with_item n v other))
    → ((v : Value) → p (with_item n v env) ≡ p (with_item n v other))
    → (denotation range.0 env >>= λ v. range_of (out-Value v) >>= over kind n test p env) ≡ (denotation range.0 other >>= λ v. range_of (out-Value v) >>= over kind n test p other)
macro_alike kind range n test p env other r t h =
    ap (λ o. o >>= λ v. range_of (out-Value v) >>= over kind n test p env) (range.1 env other r)
    ∙ bind_same (denotation range.0 other) (λ v. range_of (out-Value v) >>= over kind n test p env) (λ v. range_of (out-Value v) >>= over kind n test p other)
    (λ v. bind_same (range_of (out-Value v)) (over kind n test p env) (over kind n test p other) (over_same kind n test p env other t h))

depends_layer : (y : Expr-F One Pair) (env other : Env) → Alike (λ n. occurs_at n (parts y)) env other → means (parts y) env ≡ means (parts y) other
depends_layer Expr-F.Null env other h = refl
depends_layer (Expr-F.Bool b) env other h = refl
depends_layer (Expr-F.Int z) env other h = refl
depends_layer (Expr-F.Text t) env other h = refl
depends_layer (Expr-F.Name n) env other h = ap or_unbound (h n ((bytes_eq-Decides n n).1 refl))
depends_layer (Expr-F.List es) env other h = ap (λ os. list_of (in_order os)) (each_alike es env other h)
depends_layer (Expr-F.Map ps) env other h = ap (λ os. in_order os >>= λ qs. put_pairs [] qs >>= λ entries. weighed (made.Map entries)) (pairs_alike ps env other h)
depends_layer (Expr-F.Select e field) env other h = ap (λ o. o >>= λ v. selected field (out-Value v)) (e.1 env other h)
depends_layer (Expr-F.Has e field) env other h = ap (λ o. o >>= λ v. presence field (out-Value v)) (e.1 env other h)
depends_layer (Expr-F.Index a b) env other h =
    ap (λ o. o >>= λ v. denotation b.0 env >>= λ k. indexed (out-Value v) (out-Value k)) (a.1 env other (alike_left _ _ env other h))
    ∙ ap (λ o. denotation a.0 other >>= λ v. o >>= λ k. indexed (out-Value v) (out-Value k)) (b.1 env other (alike_right _ _ env other h))
depends_layer (Expr-F.Call None name es) env other h = ap (λ os. in_order os >>= called false name) (each_alike es env other h)
depends_layer (Expr-F.Call (Some e) name es) env other h = ap (λ os. in_order os >>= called true name) (each_alike (e ∷ es) env other h)
depends_layer (Expr-F.Not e) env other h = ap (λ o. o >>= λ v. applied Function.Not (v ∷ [])) (e.1 env other h)
depends_layer (Expr-F.Neg e) env other h = ap (λ o. o >>= λ v. applied Function.Neg (v ∷ [])) (e.1 env other h)
depends_layer (Expr-F.Binary op a b) env other h =
    ap (λ o. binary op o (denotation b.0 env)) (a.1 env other (alike_left _ _ env other h))
    ∙ ap (λ o. binary op (denotation a.0 other) o) (b.1 env other (alike_right _ _ env other h))
depends_layer (Expr-F.Cond c a b) env other h =
    let rest = alike_right _ _ env other h in
    ap (λ o. chosen o (denotation a.0 env) (denotation b.0 env)) (c.1 env other (alike_left _ _ env other h))
    ∙ ap (λ o. chosen (denotation c.0 other) o (denotation b.0 env)) (a.1 env other (alike_left _ _ env other rest))
    ∙ ap (λ o. chosen (denotation c.0 other) (denotation a.0 other) o) (b.1 env other (alike_right _ _ env other rest))
depends_layer (Expr-F.Macro kind range n None p) env other h =
    macro_alike kind range n None (denotation p.0) env other
    (alike_left _ _ env other h) (λ v. refl)
    (λ v. p.1 (with_item n v env) (with_item n v other) (alike_with n v (λ m. occurs_free m p.0) env other (alike_right _ _ env other h)))
depends_layer (Expr-F.Macro kind range n (Some test) p) env other h =
    let inside : (v : Value) → Alike (λ m. occurs_free m test.0 || occurs_free m p.0) (with_item n v env) (with_item n v other)
    = λ v. alike_with n v (λ m. occurs_free m test.0 || occurs_free m p.0) env other
    (alike_right _ _ env other h) in
    macro_alike kind range n (Some (denotation test.0)) (denotation p.0) env other
    (alike_left _ _ env other h)
    (λ v. test.1 (with_item n v env) (with_item n v other) (alike_left _ _ (with_item n v env) (with_item n v other) (inside v)))
    (λ v. p.1 (with_item n v env) (with_item n v other) (alike_right _ _ (with_item n v env) (with_item n v other) (inside v)))

occurs_rolled : (name : List ℕ) (x : Expr-F Expr MapPair) → occurs_free name (roll-Expr x) ≡ occurs_at name x
occurs_rolled name x = fold-roll-Expr Bool Bool (free_step name) free_in_pair x

means_rolled : (x : Expr-F Expr MapPair) (env : Env) → denotation (roll-Expr x) env ≡ means x env
means_rolled x env = ap (λ m. m env) (fold-roll-Expr Meaning PairMeaning meaning_step pair_step x)

depends_step : (y : Expr-F One Pair) → Depends (roll-Expr (parts y))
depends_step y env other h =
    means_rolled (parts y) env ∙ depends_layer y env other (λ name k. h name (occurs_rolled name (parts y) ∙ k)) ∙ sym (means_rolled (parts y) other)

abbrev paired : MapPair-F One Pair → MapPair
paired y = record { key = y.key.0; value = y.value.0 }

pair_occurs_at : (name : List ℕ) (p : MapPair) → pair_occurs name p ≡ (occurs_free name p.key || occurs_free name p.value)
pair_occurs_at name p = fold-roll-MapPair Bool Bool (free_step name) free_in_pair (record { key = p.key; value = p.value })

pair_means_at : (p : MapPair) (env : Env) → pair_means p env ≡ (denotation p.key env >>= λ k. denotation p.value env >>= λ v. Ok (k, v))
pair_means_at p env = ap (λ m. m env) (fold-roll-MapPair Meaning PairMeaning meaning_step pair_step (record { key = p.key; value = p.value }))

pair_depends : (y : MapPair-F One Pair) → PairDepends (paired y)
pair_depends y env other h =
    let both : Alike (λ n. occurs_free n y.key.0 || occurs_free n y.value.0) env other = λ name k. h name (pair_occurs_at name (paired y) ∙ k) in
    pair_means_at (paired y) env
    ∙ ap (λ o. o >>= λ k. denotation y.value.0 env >>= λ v. Ok (k, v)) (y.key.1 env other (alike_left _ _ env other both))
    ∙ ap (λ o. denotation y.key.0 other >>= λ k. o >>= λ v. Ok (k, v)) (y.value.1 env other (alike_right _ _ env other both))
    ∙ sym (pair_means_at (paired y) other)

pub agreeing : (e : Expr) (env other : Env) → Agree e env other → denotation e env ≡ denotation e other
agreeing = ind-Expr Depends PairDepends
    (λ x y is. subst (λ z. Depends (roll-Expr z)) is (depends_step y))
    (λ x y is. subst (λ z. PairDepends (record { key = z.key; value = z.value })) is (pair_depends y))

-- ---- further bindings

bound_before : (is : Bool) (x y z : Option Value) → IsSome (cond is x z) → (IsSome z → y ≡ z) → cond is x y ≡ cond is x z
bound_before true x y z k h = refl
bound_before false x y z k h = h k

lookup_before : (name : List ℕ) (env more : Env) → IsSome (lookup name env) → lookup name (env ++ more) ≡ lookup name env
lookup_before name [] more h = absurd (cc)
lookup_before name (b ∷ env) more h = bound_before (bytes_eq name b.name) (Some b.value) (lookup name (env ++ more)) (lookup name env) h (lookup_before name env more)

pub behind : (e : Expr) (env more : Env) → ((name : List ℕ) → occurs_free name e ≡ true → IsSome (lookup name env))
    → denotation e (env ++ more) ≡ denotation e env
behind e env more h = agreeing e (env ++ more) env (λ name free. lookup_before name env more (h name free))

other_name : (e : Expr) (name n : List ℕ) → occurs_free name e ≡ true → occurs_free n e ≡ false → bytes_eq name n ≡ false
other_name e name n free not_free =
    false_from_ne_true (bytes_eq name n) (λ is. both_ways (occurs_free n e) not_free (ap (λ m. occurs_free m e) (sym ((bytes_eq-Decides name n).0 is)) ∙ free))

lookup_past : (e : Expr) (name : List ℕ) (more env : Env) → occurs_free name e ≡ true → AllByRecursion (λ b. occurs_free b.name e ≡ false) more
    → lookup name (more ++ env) ≡ lookup name env
lookup_past e name [] env free h = refl
lookup_past e name (b ∷ more) env free h =
    ap (λ is. cond is (Some b.value) (lookup name (more ++ env))) (other_name e name b.name free h.0) ∙ lookup_past e name more env free h.1

lookup_among : (name : List ℕ) (front env other : Env) → lookup name env ≡ lookup name other → lookup name (front ++ env) ≡ lookup name (front ++ other)
lookup_among name [] env other h = h
lookup_among name (b ∷ front) env other h = ap (cond (bytes_eq name b.name) (Some b.value)) (lookup_among name front env other h)

pub unused : (e : Expr) (front more env : Env) → AllByRecursion (λ b. occurs_free b.name e ≡ false) more
    → denotation e (front ++ (more ++ env)) ≡ denotation e (front ++ env)
unused e front more env h = agreeing e (front ++ (more ++ env)) (front ++ env) (λ name free. lookup_among name front (more ++ env) env (lookup_past e name more env free h))
