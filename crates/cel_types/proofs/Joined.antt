-- The join of types, from the last to the first.
use Rattle.std.proofs.Common.{◌≡◌, ◌++◌, List, [], ◌∷◌, map, refl, ap, sym, ◌∙◌}
use Rattle.cel_types.specs.declared.cel_type.CelType.{CelType}
use Rattle.cel_types.specs.Types.{join, join_all}

pub join_last : (ts : List CelType) (t u : CelType) → join_all ((ts ++ t ∷ []) ++ u ∷ []) ≡ join_all (ts ++ join t u ∷ [])
join_last [] t u = refl
join_last (a ∷ []) t u = refl
join_last (a ∷ b ∷ ts) t u = ap (join a) (join_last (b ∷ ts) t u)

-- the types of values
abbrev pub values : List (CelType × CelType) → List CelType
values = map (λ p. p.1)

pub values_last : (ps : List (CelType × CelType)) (p : CelType × CelType) (u : CelType)
    → join_all (values (ps ++ p ∷ []) ++ u ∷ []) ≡ join_all (values ps ++ join p.1 u ∷ [])
values_last [] p u = refl
values_last (a ∷ []) p u = refl
values_last (a ∷ b ∷ ps) p u = ap (join a.1) (values_last (b ∷ ps) p u)

pub values_end : (ps : List (CelType × CelType)) (p : CelType × CelType) → values (ps ++ p ∷ []) ≡ values ps ++ p.1 ∷ []
values_end [] p = refl
values_end (a ∷ ps) p = ap (λ ts. a.1 ∷ ts) (values_end ps p)

pub values_step : (before after : List (CelType × CelType)) (p : CelType × CelType) (t u joined all : CelType) → before ≡ after ++ p ∷ [] → t ≡ p.1 → joined ≡ join t u
    → join_all (values before ++ u ∷ []) ≡ all → join_all (values after ++ joined ∷ []) ≡ all
values_step before after p t u joined all is t_is j h =
    ap (λ x. join_all (values after ++ x ∷ [])) (j ∙ ap (λ x. join x u) t_is) ∙ (sym (values_last after p u) ∙ (sym (ap (λ ps. join_all (values ps ++ u ∷ [])) is) ∙ h))
