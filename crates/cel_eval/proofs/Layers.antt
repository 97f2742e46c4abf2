-- What a map literal means.
use Rattle.std.proofs.Common.{◌≡◌, List, [], ◌∷◌, map, refl, sym, ap, ◌∙◌}
use Rattle.cel_values.specs.declared.expr.Expr.TheViews as expr
use Rattle.cel_values.specs.declared.expr.Expr.TheOpen.{Expr-F}
use Rattle.cel_values.specs.declared.expr.Expr.TheFolds.{fold-roll-Expr, fold-roll-MapPair, fold-MapPair}
use Rattle.cel_values.specs.declared.expr.Expr.TheVariants.{rolls-Map}
use Rattle.cel_values.specs.declared.expr.MapPair.{MapPair}
use Rattle.cel_values.specs.declared.value.Value.TheViews as made
use Rattle.cel_builtins.specs.Outcomes.{◌>>=◌, in_order, weighed}
use Rattle.cel_eval.specs.Denotation.{Env, Meaning, PairMeaning, meaning_step, pair_step, denotation, pair_denotation, each, put_pairs}

pub map_same : {A B : Type 0} (f g : A → B) → ((x : A) → f x ≡ g x) → (xs : List A) → map f xs ≡ map g xs
map_same f g h [] = refl
map_same f g h (x ∷ xs) = ap (λ y. y ∷ map f xs) (h x) ∙ ap (λ ys. g x ∷ ys) (map_same f g h xs)

pair : (p : MapPair) → fold-MapPair Meaning PairMeaning meaning_step pair_step p ≡ pair_denotation p
pair p = fold-roll-MapPair Meaning PairMeaning meaning_step pair_step (record { key = p.key; value = p.value })

pub denotation_map : (ps : List MapPair) (env : Env) → denotation (expr.Map ps) env ≡ (in_order (each (map pair_denotation ps) env) >>= λ qs. put_pairs [] qs >>= λ es. weighed (made.Map es))
denotation_map ps env =
    ap (λ x. denotation x env) (sym (rolls-Map ps)) ∙ ap (λ m. m env) (fold-roll-Expr Meaning PairMeaning meaning_step pair_step (Expr-F.Map ps))
    ∙ ap (λ ms. in_order (each ms env) >>= λ qs. put_pairs [] qs >>= λ es. weighed (made.Map es)) (map_same _ pair_denotation pair ps)
