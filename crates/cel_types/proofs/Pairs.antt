-- What is found of a pair of a map literal.
use Rattle.std.proofs.Common.{◌≡◌, List, [], ◌∷◌, map, refl, sym, ap, ◌∙◌}
use Rattle.cel_values.specs.declared.expr.Expr.TheViews as expr
use Rattle.cel_values.specs.declared.expr.Expr.TheOpen.{Expr-F}
use Rattle.cel_values.specs.declared.expr.Expr.TheFolds.{fold-roll-Expr, fold-roll-MapPair, fold-MapPair}
use Rattle.cel_values.specs.declared.expr.Expr.TheVariants.{rolls-Map}
use Rattle.cel_values.specs.declared.expr.MapPair.{MapPair}
use Rattle.cel_types.specs.declared.cel_type.CelType.{CelType}
use Rattle.cel_types.specs.Typing.{Typing, typing, typing_step, pair_step, many, literal_map_type}

-- what is found of a pair
abbrev pub pair_typing : MapPair → Typing (CelType × CelType)
pair_typing p = pair_step (record { key = typing p.key; value = typing p.value })

map_same : {A B : Type 0} (f g : A → B) → ((x : A) → f x ≡ g x) → (xs : List A) → map f xs ≡ map g xs
map_same f g h [] = refl
map_same f g h (x ∷ xs) = ap (λ y. y ∷ map f xs) (h x) ∙ ap (λ ys. g x ∷ ys) (map_same f g h xs)

pair : (p : MapPair) → fold-MapPair (Typing CelType) (Typing (CelType × CelType)) typing_step pair_step p ≡ pair_typing p
pair p = fold-roll-MapPair (Typing CelType) (Typing (CelType × CelType)) typing_step pair_step (record { key = p.key; value = p.value })

pub typing_map : (ps : List MapPair) → typing (expr.Map ps) ≡ many literal_map_type (map pair_typing ps)
typing_map ps =
    ap typing (sym (rolls-Map ps)) ∙ fold-roll-Expr (Typing CelType) (Typing (CelType × CelType)) typing_step pair_step (Expr-F.Map ps)
    ∙ ap (many literal_map_type) (map_same _ pair_typing pair ps)
