-- Types: which are equal, which fit, and what two of them join to.
use Rattle.std.specs.Prelude.{◌≡◌, Bool, true, false, ◌&&◌, List, [], ◌∷◌, if◌then◌else◌}
use Rattle.cel_types.specs.declared.cel_type.CelType.{CelType, out-CelType, fold-CelType}
use Rattle.cel_types.specs.declared.cel_type.CelType.TheOpen.{CelType-F}

-- one layer of the equality of types
abbrev pub same_step : CelType-F (CelType → Bool) → CelType-F CelType → Bool
same_step CelType-F.Dyn CelType-F.Dyn = true
same_step CelType-F.Null CelType-F.Null = true
same_step CelType-F.Bool CelType-F.Bool = true
same_step CelType-F.Int CelType-F.Int = true
same_step CelType-F.Text CelType-F.Text = true
same_step CelType-F.Time CelType-F.Time = true
same_step CelType-F.Span CelType-F.Span = true
same_step (CelType-F.List f) (CelType-F.List u) = f u
same_step (CelType-F.Map f) (CelType-F.Map u) = f u
same_step _ _ = false

-- the types are equal
abbrev pub same : CelType → CelType → Bool
same = fold-CelType (CelType → Bool) (λ x t. same_step x (out-CelType t))

-- one layer of a type without dyn
abbrev pub plain_step : CelType-F Bool → Bool
plain_step CelType-F.Dyn = false
plain_step (CelType-F.List b) = b
plain_step (CelType-F.Map b) = b
plain_step _ = true

-- no part of the type is dyn
abbrev pub plain : CelType → Bool
plain = fold-CelType Bool plain_step

-- a type without dyn
abbrev pub IsPlain : CelType → Type 0
IsPlain t = plain t ≡ true

-- one layer of what fits
abbrev pub fits_step : CelType-F (CelType → Bool) → CelType-F CelType → Bool
fits_step CelType-F.Dyn u = true
fits_step t CelType-F.Dyn = true
fits_step CelType-F.Null CelType-F.Null = true
fits_step CelType-F.Bool CelType-F.Bool = true
fits_step CelType-F.Int CelType-F.Int = true
fits_step CelType-F.Text CelType-F.Text = true
fits_step CelType-F.Time CelType-F.Time = true
fits_step CelType-F.Span CelType-F.Span = true
fits_step (CelType-F.List f) (CelType-F.List u) = f u
fits_step (CelType-F.Map f) (CelType-F.Map u) = f u
fits_step _ _ = false

-- the types are equal, or one is dyn, or both are lists or both maps whose parts fit
abbrev pub fits : CelType → CelType → Bool
fits = fold-CelType (CelType → Bool) (λ x t. fits_step x (out-CelType t))

-- the type itself where both are equal, else dyn
abbrev pub join : CelType → CelType → CelType
join t u = if same t u then t else CelType.Dyn

-- the join of all of them; of none it is dyn
abbrev pub join_all : List CelType → CelType
join_all [] = CelType.Dyn
join_all (t ∷ []) = t
join_all (t ∷ u ∷ ts) = join t (join_all (u ∷ ts))

-- each type of the list fits this one
abbrev pub all_fit : CelType → List CelType → Bool
all_fit wanted [] = true
all_fit wanted (t ∷ ts) = fits t wanted && all_fit wanted ts
