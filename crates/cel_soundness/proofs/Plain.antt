-- A value of a type without dyn holds nothing opaque, and its kind is the one that the type fits.
use Rattle.std.proofs.Common.{◌≡◌, ℕ, nat_eq, Bool, true, false, not, ◌||◌, ◌&&◌, List, [], ◌∷◌, map, refl, sym, ap, ◌∙◌, subst}
use Rattle.cel_values.specs.declared.value.Value.{Value, out-Value}
use Rattle.cel_values.specs.declared.value.Value.TheOpen.{Value-F, MapEntry-F}
use Rattle.cel_values.specs.declared.value.Value.TheViews.{roll-Value, out-roll-Value}
use Rattle.cel_values.specs.declared.value.Value.TheFolds.{fold-roll-Value, fold-roll-MapEntry, map-Value, fold-MapEntry, ind-Value}
use Rattle.cel_values.specs.declared.value.MapEntry.{MapEntry}
use Rattle.cel_values.specs.Opacity.{holds_opaque, opaque_step, any_of}
use Rattle.cel_builtins.specs.declared.function.Function.{Function}
use Rattle.cel_builtins.specs.Functions.{takes}
use Rattle.cel_builtins.specs.Outcomes.{Shape}
use Rattle.cel_builtins.specs.Overloads.{kind, kind_step}
use Rattle.cel_types.specs.declared.cel_type.CelType.{CelType, out-CelType}
use Rattle.cel_types.specs.declared.cel_type.CelType.TheOpen.{CelType-F}
use Rattle.cel_types.specs.declared.cel_type.CelType.TheFolds.{fold_out-CelType, map-CelType}
use Rattle.cel_types.specs.Types.{plain, plain_step}
use Rattle.cel_types.specs.Rows.{fits_kind, fits_kind_step}
use Rattle.cel_soundness.specs.WellTyped.{of_type_step, of_type, all_of_type}
use Rattle.cel_soundness.proofs.Shapes.{TypeShape, seen, of_type_is, entry_of_type}

abbrev pub plain_layer : TypeShape → Bool
plain_layer u = plain_step (map-CelType CelType Bool plain u)

pub plain_is : (t : CelType) → plain t ≡ plain_layer (out-CelType t)
plain_is t = fold_out-CelType Bool plain_step t

-- ---- kinds

kind_shape : (x : Shape) (u : TypeShape) (k : ℕ) → plain_layer u ≡ true → of_type_step (seen x) u ≡ true → fits_kind_step u k ≡ nat_eq k (kind_step x)
kind_shape x CelType-F.Dyn k p h = cc
kind_shape Value-F.Null CelType-F.Null k p h = refl
kind_shape (Value-F.Bool b) CelType-F.Bool k p h = refl
kind_shape (Value-F.Int z) CelType-F.Int k p h = refl
kind_shape (Value-F.Text t) CelType-F.Text k p h = refl
kind_shape (Value-F.Time z) CelType-F.Time k p h = refl
kind_shape (Value-F.Span z) CelType-F.Span k p h = refl
kind_shape (Value-F.List vs) (CelType-F.List u) k p h = refl
kind_shape (Value-F.Map es) (CelType-F.Map u) k p h = refl
kind_shape _ _ k p h = cc

-- the type of a value fits the value's kind alone
pub kind_of_plain : (v : Value) (t : CelType) (k : ℕ) → plain t ≡ true → of_type v t ≡ true → fits_kind t k ≡ nat_eq k (kind v)
kind_of_plain v t k p h = kind_shape (out-Value v) (out-CelType t) k (sym (plain_is t) ∙ p) (sym (of_type_is v t) ∙ h)

-- ---- nothing opaque

abbrev NoOpaque : Value → Type 0
NoOpaque v = (t : CelType) → plain t ≡ true → of_type v t ≡ true → holds_opaque v ≡ false

abbrev entry_opaque : MapEntry → Bool
entry_opaque e = fold-MapEntry Bool Bool opaque_step (λ e'. e'.value) e

abbrev EntryNoOpaque : MapEntry → Type 0
EntryNoOpaque e = (t : CelType) → plain t ≡ true → entry_of_type e t ≡ true → entry_opaque e ≡ false

-- a test that two parts pass is passed by each
pub and_left : (a b : Bool) → (a && b) ≡ true → a ≡ true
and_left true b h = refl
and_left false b h = cc

pub and_right : (a b : Bool) → (a && b) ≡ true → b ≡ true
and_right true b h = h
and_right false b h = cc

pub and_both : (a b : Bool) → a ≡ true → b ≡ true → (a && b) ≡ true
and_both true b h g = g
and_both false b h g = h

none_of : (a b : Bool) → a ≡ false → b ≡ false → (a || b) ≡ false
none_of false b h k = k
none_of true b h k = cc

items_clear : (vs : List ((v : Value) × NoOpaque v)) (t : CelType) → plain t ≡ true → all_of_type (map of_type (map (λ e. e.0) vs)) t ≡ true
    → any_of (map holds_opaque (map (λ e. e.0) vs)) ≡ false
items_clear [] t p h = refl
items_clear (v ∷ vs) t p h =
    let rest = all_of_type (map of_type (map (λ e. e.0) vs)) t in
    none_of (holds_opaque v.0) (any_of (map holds_opaque (map (λ e. e.0) vs)))
    (v.1 t p (and_left (of_type v.0 t) rest h)) (items_clear vs t p (and_right (of_type v.0 t) rest h))

entries_clear : (es : List ((e : MapEntry) × EntryNoOpaque e)) (t : CelType) → plain t ≡ true → all_of_type (map entry_of_type (map (λ e. e.0) es)) t ≡ true
    → any_of (map entry_opaque (map (λ e. e.0) es)) ≡ false
entries_clear [] t p h = refl
entries_clear (e ∷ es) t p h =
    let rest = all_of_type (map entry_of_type (map (λ e'. e'.0) es)) t in
    none_of (entry_opaque e.0) (any_of (map entry_opaque (map (λ e'. e'.0) es)))
    (e.1 t p (and_left (entry_of_type e.0 t) rest h)) (entries_clear es t p (and_right (entry_of_type e.0 t) rest h))

abbrev Held : Type 0
Held = Value-F ((v : Value) × NoOpaque v) ((e : MapEntry) × EntryNoOpaque e)

abbrev plain_parts : Held → Shape
plain_parts y = map-Value ((v : Value) × NoOpaque v) ((e : MapEntry) × EntryNoOpaque e) Value MapEntry (λ e. e.0) (λ e. e.0) y

clear_layer : (y : Held) (u : TypeShape) → plain_layer u ≡ true → of_type_step (seen (plain_parts y)) u ≡ true
    → opaque_step (map-Value Value MapEntry Bool Bool holds_opaque entry_opaque (plain_parts y)) ≡ false
clear_layer Value-F.Null u p h = refl
clear_layer (Value-F.Bool b) u p h = refl
clear_layer (Value-F.Int z) u p h = refl
clear_layer (Value-F.Text s) u p h = refl
clear_layer (Value-F.Time z) u p h = refl
clear_layer (Value-F.Span z) u p h = refl
clear_layer Value-F.Opaque CelType-F.Dyn p h = cc
clear_layer Value-F.Opaque _ p h = cc
clear_layer (Value-F.List vs) CelType-F.Dyn p h = cc
clear_layer (Value-F.List vs) (CelType-F.List t) p h = items_clear vs t p h
clear_layer (Value-F.List vs) _ p h = cc
clear_layer (Value-F.Map es) CelType-F.Dyn p h = cc
clear_layer (Value-F.Map es) (CelType-F.Map t) p h = entries_clear es t p h
clear_layer (Value-F.Map es) _ p h = cc

clear_step : (y : Held) → NoOpaque (roll-Value (plain_parts y))
clear_step y t p h =
    fold-roll-Value Bool Bool opaque_step (λ e. e.value) (plain_parts y)
    ∙ clear_layer y (out-CelType t) (sym (plain_is t) ∙ p)
    (sym (ap (λ x. of_type_step (seen x) (out-CelType t)) (out-roll-Value (plain_parts y))) ∙ (sym (of_type_is (roll-Value (plain_parts y)) t) ∙ h))

entry_step : (y : MapEntry-F ((v : Value) × NoOpaque v) ((e : MapEntry) × EntryNoOpaque e)) → EntryNoOpaque (record { key = y.key; value = y.value.0 })
entry_step y t p h =
    fold-roll-MapEntry Bool Bool opaque_step (λ e. e.value) (record { key = y.key; value = y.value.0 })
    ∙ y.value.1 t p (sym (ap (λ f. f t) (fold-roll-MapEntry (CelType → Bool) (CelType → Bool) (λ x u. of_type_step x (out-CelType u)) (λ e. e.value)
    (record { key = y.key; value = y.value.0 }))) ∙ h)

-- a value of a plain type holds nothing opaque
pub clear : (v : Value) → NoOpaque v
clear =
    ind-Value NoOpaque EntryNoOpaque (λ x y is. subst (λ z. NoOpaque (roll-Value z)) is (clear_step y))
    (λ x y is. subst (λ z. EntryNoOpaque (record { key = z.key; value = z.value })) is (entry_step y))

-- each function takes a value of a plain type
pub taken : (f : Function) (v : Value) (t : CelType) → plain t ≡ true → of_type v t ≡ true → takes f v ≡ true
taken Function.Size v t p h = refl
taken _ v t p h = ap not (clear v t p h)
