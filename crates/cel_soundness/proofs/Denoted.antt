-- What an expression of each form means.
use Rattle.std.proofs.Common.{◌≡◌, ℕ, ℤ, Bool, List, [], ◌∷◌, map, None, Some, Ok, refl, sym, ap, ◌∙◌}
use Rattle.cel_values.specs.declared.expr.BinaryOp.{BinaryOp}
use Rattle.cel_values.specs.declared.expr.MacroKind.{MacroKind}
use Rattle.cel_values.specs.declared.expr.MapPair.{MapPair}
use Rattle.cel_values.specs.declared.expr.Expr.{Expr}
use Rattle.cel_values.specs.declared.expr.Expr.TheViews as expr
use Rattle.cel_values.specs.declared.expr.Expr.TheViews.{roll-Expr}
use Rattle.cel_values.specs.declared.expr.Expr.TheOpen.{Expr-F}
use Rattle.cel_values.specs.declared.expr.Expr.TheFolds.{fold-roll-Expr, fold-roll-MapPair, fold-MapPair, map-Expr}
use Rattle.cel_values.specs.declared.expr.Expr.TheVariants as tree
use Rattle.cel_values.specs.declared.value.Value.{Value, out-Value}
use Rattle.cel_values.specs.declared.value.Value.TheViews as made
use Rattle.cel_builtins.specs.declared.function.Function.{Function}
use Rattle.cel_builtins.specs.Functions.{applied}
use Rattle.cel_builtins.specs.Outcomes.{◌>>=◌, in_order, weighed}
use Rattle.cel_eval.specs.Denotation.{Env, Meaning, PairMeaning, meaning_step, pair_step, denotation, pair_denotation, named, list_of, each, put_pairs, selected, presence, indexed, binary, chosen, called, range_of, over}

-- a tree made of a layer means what the layer says
formed : (e : Expr) (x : Expr-F Expr MapPair) (env : Env) → roll-Expr x ≡ e
    → denotation e env ≡ meaning_step (map-Expr Expr MapPair Meaning PairMeaning denotation (fold-MapPair Meaning PairMeaning meaning_step pair_step) x) env
formed e x env is = ap (λ y. denotation y env) (sym is) ∙ ap (λ m. m env) (fold-roll-Expr Meaning PairMeaning meaning_step pair_step x)

pub den_null : (env : Env) → denotation Expr.Null env ≡ Ok Value.Null
den_null env = formed Expr.Null Expr-F.Null env tree.rolls-Null

pub den_bool : (b : Bool) (env : Env) → denotation (Expr.Bool b) env ≡ Ok (Value.Bool b)
den_bool b env = formed (Expr.Bool b) (Expr-F.Bool b) env (tree.rolls-Bool b)

pub den_int : (z : ℤ) (env : Env) → denotation (Expr.Int z) env ≡ Ok (Value.Int z)
den_int z env = formed (Expr.Int z) (Expr-F.Int z) env (tree.rolls-Int z)

pub den_text : (s : List ℕ) (env : Env) → denotation (Expr.Text s) env ≡ Ok (Value.Text s)
den_text s env = formed (Expr.Text s) (Expr-F.Text s) env (tree.rolls-Text s)

pub den_name : (n : List ℕ) (env : Env) → denotation (Expr.Name n) env ≡ named n env
den_name n env = formed (Expr.Name n) (Expr-F.Name n) env (tree.rolls-Name n)

pub den_list : (es : List Expr) (env : Env) → denotation (expr.List es) env ≡ list_of (in_order (each (map denotation es) env))
den_list es env = formed (expr.List es) (Expr-F.List es) env (tree.rolls-List es)

map_same : {A B : Type 0} (f g : A → B) → ((x : A) → f x ≡ g x) → (xs : List A) → map f xs ≡ map g xs
map_same f g h [] = refl
map_same f g h (x ∷ xs) = ap (λ y. y ∷ map f xs) (h x) ∙ ap (λ ys. g x ∷ ys) (map_same f g h xs)

pair : (p : MapPair) → fold-MapPair Meaning PairMeaning meaning_step pair_step p ≡ pair_denotation p
pair p = fold-roll-MapPair Meaning PairMeaning meaning_step pair_step (record { key = p.key; value = p.value })

pub den_map : (ps : List MapPair) (env : Env)
    → denotation (expr.Map ps) env ≡ (in_order (each (map pair_denotation ps) env) >>= λ qs. put_pairs [] qs >>= λ es. weighed (made.Map es))
den_map ps env =
    formed (expr.Map ps) (Expr-F.Map ps) env (tree.rolls-Map ps)
    ∙ ap (λ ms. in_order (each ms env) >>= λ qs. put_pairs [] qs >>= λ es. weighed (made.Map es)) (map_same _ pair_denotation pair ps)

pub den_select : (e : Expr) (f : List ℕ) (env : Env) → denotation (expr.Select e f) env ≡ (denotation e env >>= λ v. selected f (out-Value v))
den_select e f env = formed (expr.Select e f) (Expr-F.Select e f) env (tree.rolls-Select e f)

pub den_has : (e : Expr) (f : List ℕ) (env : Env) → denotation (expr.Has e f) env ≡ (denotation e env >>= λ v. presence f (out-Value v))
den_has e f env = formed (expr.Has e f) (Expr-F.Has e f) env (tree.rolls-Has e f)

pub den_index : (e i : Expr) (env : Env)
    → denotation (expr.Index e i) env ≡ (denotation e env >>= λ v. denotation i env >>= λ k. indexed (out-Value v) (out-Value k))
den_index e i env = formed (expr.Index e i) (Expr-F.Index e i) env (tree.rolls-Index e i)

pub den_call : (n : List ℕ) (es : List Expr) (env : Env)
    → denotation (expr.Call None n es) env ≡ (in_order (each (map denotation es) env) >>= called Bool.false n)
den_call n es env = formed (expr.Call None n es) (Expr-F.Call None n es) env (tree.rolls-Call None n es)

pub den_member : (e : Expr) (n : List ℕ) (es : List Expr) (env : Env)
    → denotation (expr.Call (Some e) n es) env ≡ (in_order (each (map denotation (e ∷ es)) env) >>= called Bool.true n)
den_member e n es env = formed (expr.Call (Some e) n es) (Expr-F.Call (Some e) n es) env (tree.rolls-Call (Some e) n es)

pub den_not : (e : Expr) (env : Env) → denotation (expr.Not e) env ≡ (denotation e env >>= λ v. applied Function.Not (v ∷ []))
den_not e env = formed (expr.Not e) (Expr-F.Not e) env (tree.rolls-Not e)

pub den_neg : (e : Expr) (env : Env) → denotation (expr.Neg e) env ≡ (denotation e env >>= λ v. applied Function.Neg (v ∷ []))
den_neg e env = formed (expr.Neg e) (Expr-F.Neg e) env (tree.rolls-Neg e)

pub den_binary : (op : BinaryOp) (a b : Expr) (env : Env) → denotation (expr.Binary op a b) env ≡ binary op (denotation a env) (denotation b env)
den_binary op a b env = formed (expr.Binary op a b) (Expr-F.Binary op a b) env (tree.rolls-Binary op a b)

pub den_choice : (c a b : Expr) (env : Env) → denotation (expr.Cond c a b) env ≡ chosen (denotation c env) (denotation a env) (denotation b env)
den_choice c a b env = formed (expr.Cond c a b) (Expr-F.Cond c a b) env (tree.rolls-Cond c a b)

pub den_macro : (kind : MacroKind) (r : Expr) (n : List ℕ) (p : Expr) (env : Env)
    → denotation (expr.Macro kind r n None p) env ≡ (denotation r env >>= λ v. range_of (out-Value v) >>= over kind n None (denotation p) env)
den_macro kind r n p env = formed (expr.Macro kind r n None p) (Expr-F.Macro kind r n None p) env (tree.rolls-Macro kind r n None p)

pub den_tested : (kind : MacroKind) (r : Expr) (n : List ℕ) (test p : Expr) (env : Env)
    → denotation (expr.Macro kind r n (Some test) p) env
    ≡ (denotation r env >>= λ v. range_of (out-Value v) >>= over kind n (Some (denotation test)) (denotation p) env)
den_tested kind r n test p env = formed (expr.Macro kind r n (Some test) p) (Expr-F.Macro kind r n (Some test) p) env (tree.rolls-Macro kind r n (Some test) p)
