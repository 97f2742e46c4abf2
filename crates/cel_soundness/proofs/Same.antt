-- Types that are the same are equal, and so are types without dyn that fit.
use Rattle.std.proofs.Common.{◌≡◌, Bool, true, false, List, [], ◌∷◌, refl, sym, ap, ◌∙◌, subst, cond}
use Rattle.cel_types.specs.declared.cel_type.CelType.{CelType, out-CelType}
use Rattle.cel_types.specs.declared.cel_type.CelType.TheOpen.{CelType-F}
use Rattle.cel_types.specs.declared.cel_type.CelType.TheViews as types
use Rattle.cel_types.specs.declared.cel_type.CelType.TheViews.{roll-CelType, out-roll-CelType, roll-out-CelType}
use Rattle.cel_types.specs.declared.cel_type.CelType.TheFolds.{fold-roll-CelType, map-CelType, ind-CelType}
use Rattle.cel_types.specs.declared.cel_type.CelType.TheVariants as type
use Rattle.cel_types.specs.Types.{same, same_step, plain, plain_step, fits, fits_step, join, join_all}
use Rattle.cel_soundness.proofs.Shapes.{TypeShape}
use Rattle.cel_soundness.proofs.Plain.{plain_layer, plain_is}

-- ---- equal types

abbrev Equal : CelType → Type 0
Equal t = (u : CelType) → same t u ≡ true → t ≡ u

abbrev Held : Type 0
Held = CelType-F ((t : CelType) × Equal t)

abbrev parts : Held → TypeShape
parts y = map-CelType ((t : CelType) × Equal t) CelType (λ e. e.0) y

equal_layer : (y : Held) (u : TypeShape) → same_step (map-CelType CelType (CelType → Bool) same (parts y)) u ≡ true → parts y ≡ u
equal_layer CelType-F.Dyn CelType-F.Dyn h = refl
equal_layer CelType-F.Null CelType-F.Null h = refl
equal_layer CelType-F.Bool CelType-F.Bool h = refl
equal_layer CelType-F.Int CelType-F.Int h = refl
equal_layer CelType-F.Text CelType-F.Text h = refl
equal_layer CelType-F.Time CelType-F.Time h = refl
equal_layer CelType-F.Span CelType-F.Span h = refl
equal_layer (CelType-F.List t) (CelType-F.List u) h = ap (λ x. CelType-F.List x) (t.1 u h)
equal_layer (CelType-F.Map t) (CelType-F.Map u) h = ap (λ x. CelType-F.Map x) (t.1 u h)
equal_layer _ _ h = cc

equal_step : (y : Held) → Equal (roll-CelType (parts y))
equal_step y u h =
    ap roll-CelType (equal_layer y (out-CelType u) (sym (ap (λ f. f u)
    (fold-roll-CelType (CelType → Bool) (λ x t. same_step x (out-CelType t)) (parts y))) ∙ h))
    ∙ roll-out-CelType u

pub same_equal : (t : CelType) → Equal t
same_equal = ind-CelType Equal (λ x y is. subst (λ z. Equal (roll-CelType z)) is (equal_step y))

-- ---- plain types that fit

abbrev FitsAlone : CelType → Type 0
FitsAlone t = (u : CelType) → plain t ≡ true → plain u ≡ true → fits t u ≡ true → t ≡ u

abbrev Fitting : Type 0
Fitting = CelType-F ((t : CelType) × FitsAlone t)

abbrev of_fitting : Fitting → TypeShape
of_fitting y = map-CelType ((t : CelType) × FitsAlone t) CelType (λ e. e.0) y

alone_layer : (y : Fitting) (u : TypeShape) → plain_layer (of_fitting y) ≡ true → plain_layer u ≡ true
    → fits_step (map-CelType CelType (CelType → Bool) fits (of_fitting y)) u ≡ true → of_fitting y ≡ u
alone_layer CelType-F.Dyn u p q h = cc
alone_layer CelType-F.Null CelType-F.Null p q h = refl
alone_layer CelType-F.Bool CelType-F.Bool p q h = refl
alone_layer CelType-F.Int CelType-F.Int p q h = refl
alone_layer CelType-F.Text CelType-F.Text p q h = refl
alone_layer CelType-F.Time CelType-F.Time p q h = refl
alone_layer CelType-F.Span CelType-F.Span p q h = refl
alone_layer (CelType-F.List t) (CelType-F.List u) p q h = ap (λ x. CelType-F.List x) (t.1 u p q h)
alone_layer (CelType-F.Map t) (CelType-F.Map u) p q h = ap (λ x. CelType-F.Map x) (t.1 u p q h)
alone_layer _ _ p q h = cc

alone_step : (y : Fitting) → FitsAlone (roll-CelType (of_fitting y))
alone_step y u p q h =
    ap roll-CelType (alone_layer y (out-CelType u)
    (sym (fold-roll-CelType Bool plain_step (of_fitting y)) ∙ p) (sym (plain_is u) ∙ q)
    (sym (ap (λ f. f u) (fold-roll-CelType (CelType → Bool) (λ x t. fits_step x (out-CelType t)) (of_fitting y))) ∙ h))
    ∙ roll-out-CelType u

-- a plain type fits itself alone among plain ones
pub fits_alone : (t : CelType) → FitsAlone t
fits_alone = ind-CelType FitsAlone (λ x y is. subst (λ z. FitsAlone (roll-CelType z)) is (alone_step y))

-- ---- which types are plain

pub dyn_not_plain : plain CelType.Dyn ≡ false
dyn_not_plain = ap plain (sym type.rolls-Dyn) ∙ fold-roll-CelType Bool plain_step CelType-F.Dyn

pub absurd_plain : {A : Type 0} → plain CelType.Dyn ≡ true → A
absurd_plain p = let no = sym dyn_not_plain ∙ p in cc

pub plain_bool : plain CelType.Bool ≡ true
plain_bool = ap plain (sym type.rolls-Bool) ∙ fold-roll-CelType Bool plain_step CelType-F.Bool

pub plain_int : plain CelType.Int ≡ true
plain_int = ap plain (sym type.rolls-Int) ∙ fold-roll-CelType Bool plain_step CelType-F.Int

pub plain_text : plain CelType.Text ≡ true
plain_text = ap plain (sym type.rolls-Text) ∙ fold-roll-CelType Bool plain_step CelType-F.Text

pub plain_list : (t : CelType) → plain (types.List t) ≡ plain t
plain_list t = ap plain (sym (type.rolls-List t)) ∙ fold-roll-CelType Bool plain_step (CelType-F.List t)

pub plain_map : (t : CelType) → plain (types.Map t) ≡ plain t
plain_map t = ap plain (sym (type.rolls-Map t)) ∙ fold-roll-CelType Bool plain_step (CelType-F.Map t)

-- ---- joins

joined_at : (b : Bool) (t u : CelType) → same t u ≡ b → plain (cond b t CelType.Dyn) ≡ true → t ≡ u
joined_at true t u e p = same_equal t u e
joined_at false t u e p = absurd_plain p

-- where the join is plain, both are one
pub joined : (t u : CelType) → plain (join t u) ≡ true → t ≡ u
joined t u p = joined_at (same t u) t u refl p

join_at : (b : Bool) (t u : CelType) → plain (cond b t CelType.Dyn) ≡ true → cond b t CelType.Dyn ≡ t
join_at true t u p = refl
join_at false t u p = absurd_plain p

pub join_is : (t u : CelType) → plain (join t u) ≡ true → join t u ≡ t
join_is t u p = join_at (same t u) t u p

-- each type of the list is this one
abbrev pub AllAre : CelType → List CelType → Type 0
AllAre t [] = Unit {0}
AllAre t (u ∷ us) = (u ≡ t) × AllAre t us

-- where the join of several is plain, all are one
pub joined_all : (ts : List CelType) → plain (join_all ts) ≡ true → AllAre (join_all ts) ts
joined_all [] p = tt
joined_all (t ∷ []) p = (refl, tt)
joined_all (t ∷ u ∷ ts) p =
    let same_type : t ≡ join_all (u ∷ ts) = joined t (join_all (u ∷ ts)) p in
    let first : join t (join_all (u ∷ ts)) ≡ t = join_is t (join_all (u ∷ ts)) p in
    let rest : plain (join_all (u ∷ ts)) ≡ true = sym (ap plain (first ∙ same_type)) ∙ p in
    (sym first, subst (λ j. AllAre j (u ∷ ts)) (sym (first ∙ same_type)) (joined_all (u ∷ ts) rest))
