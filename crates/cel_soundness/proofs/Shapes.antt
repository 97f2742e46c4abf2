-- The layers of a value and of a type that it has.
use Rattle.std.proofs.Common.{◌≡◌, ℕ, ℤ, Bool, true, ◌&&◌, List, [], ◌∷◌, map, refl, sym, ap, ◌∙◌}
use Rattle.cel_values.specs.declared.value.Value.{Value, out-Value}
use Rattle.cel_values.specs.declared.value.Value.TheOpen.{Value-F}
use Rattle.cel_values.specs.declared.value.Value.TheViews as made
use Rattle.cel_values.specs.declared.value.Value.TheViews.{roll-Value, out-roll-Value}
use Rattle.cel_values.specs.declared.value.Value.TheFolds.{fold_out-Value, fold-roll-MapEntry, map-Value, fold-MapEntry}
use Rattle.cel_values.specs.declared.value.Value.TheVariants as value
use Rattle.cel_values.specs.declared.value.MapEntry.{MapEntry}
use Rattle.cel_builtins.specs.Outcomes.{Shape}
use Rattle.cel_types.specs.declared.cel_type.CelType.{CelType, out-CelType}
use Rattle.cel_types.specs.declared.cel_type.CelType.TheOpen.{CelType-F}
use Rattle.cel_types.specs.declared.cel_type.CelType.TheViews as types
use Rattle.cel_types.specs.declared.cel_type.CelType.TheViews.{roll-CelType, out-roll-CelType}
use Rattle.cel_types.specs.declared.cel_type.CelType.TheVariants as type
use Rattle.cel_soundness.specs.WellTyped.{of_type_step, of_type, all_of_type}

abbrev pub TypeShape : Type 0
TypeShape = CelType-F CelType

abbrev pub entry_of_type : MapEntry → CelType → Bool
entry_of_type e = fold-MapEntry (CelType → Bool) (CelType → Bool) (λ x t. of_type_step x (out-CelType t)) (λ e'. e'.value) e

-- the type of an entry is that of its value
pub entry_typed : (e : MapEntry) (t : CelType) → entry_of_type e t ≡ of_type e.value t
entry_typed e t =
    ap (λ f. f t) (fold-roll-MapEntry (CelType → Bool) (CelType → Bool) (λ x u. of_type_step x (out-CelType u)) (λ e'. e'.value)
    (record { key = e.key; value = e.value }))

abbrev pub seen : Shape → Value-F (CelType → Bool) (CelType → Bool)
seen x = map-Value Value MapEntry (CelType → Bool) (CelType → Bool) of_type entry_of_type x

pub of_type_is : (v : Value) (t : CelType) → of_type v t ≡ of_type_step (seen (out-Value v)) (out-CelType t)
of_type_is v t = ap (λ f. f t) (fold_out-Value (CelType → Bool) (CelType → Bool) (λ x u. of_type_step x (out-CelType u)) (λ e. e.value) v)

-- what holds of a value of a type holds of its layer
pub layer : (v : Value) (x : TypeShape) → of_type v (roll-CelType x) ≡ true → of_type_step (seen (out-Value v)) x ≡ true
layer v x h = ap (λ y. of_type_step (seen (out-Value v)) y) (sym (out-roll-CelType x)) ∙ (sym (of_type_is v (roll-CelType x)) ∙ h)

pub from_layer : (v : Value) (x : TypeShape) → of_type_step (seen (out-Value v)) x ≡ true → of_type v (roll-CelType x) ≡ true
from_layer v x h = of_type_is v (roll-CelType x) ∙ (ap (λ y. of_type_step (seen (out-Value v)) y) (out-roll-CelType x) ∙ h)

-- a value made of a layer has the types that the layer has
typed_layer : (x : Shape) (u : TypeShape) → of_type_step (seen x) u ≡ true → of_type (roll-Value x) (roll-CelType u) ≡ true
typed_layer x u h = from_layer (roll-Value x) u (ap (λ y. of_type_step (seen y) u) (out-roll-Value x) ∙ h)

rolled : (x : Shape) (u : TypeShape) (v : Value) (t : CelType) → roll-Value x ≡ v → roll-CelType u ≡ t → of_type_step (seen x) u ≡ true → of_type v t ≡ true
rolled x u v t is are h = ap (λ w. of_type w t) (sym is) ∙ (ap (of_type (roll-Value x)) (sym are) ∙ typed_layer x u h)

pub null_typed : of_type Value.Null CelType.Null ≡ true
null_typed = rolled Value-F.Null CelType-F.Null Value.Null CelType.Null value.rolls-Null type.rolls-Null refl

pub bool_typed : (b : Bool) → of_type (Value.Bool b) CelType.Bool ≡ true
bool_typed b = rolled (Value-F.Bool b) CelType-F.Bool (Value.Bool b) CelType.Bool (value.rolls-Bool b) type.rolls-Bool refl

pub int_typed : (z : ℤ) → of_type (Value.Int z) CelType.Int ≡ true
int_typed z = rolled (Value-F.Int z) CelType-F.Int (Value.Int z) CelType.Int (value.rolls-Int z) type.rolls-Int refl

pub text_typed : (s : List ℕ) → of_type (Value.Text s) CelType.Text ≡ true
text_typed s = rolled (Value-F.Text s) CelType-F.Text (Value.Text s) CelType.Text (value.rolls-Text s) type.rolls-Text refl

pub time_typed : (z : ℤ) → of_type (Value.Time z) CelType.Time ≡ true
time_typed z = rolled (Value-F.Time z) CelType-F.Time (Value.Time z) CelType.Time (value.rolls-Time z) type.rolls-Time refl

pub span_typed : (z : ℤ) → of_type (Value.Span z) CelType.Span ≡ true
span_typed z = rolled (Value-F.Span z) CelType-F.Span (Value.Span z) CelType.Span (value.rolls-Span z) type.rolls-Span refl

pub list_typed : (vs : List Value) (t : CelType) → all_of_type (map of_type vs) t ≡ true → of_type (made.List vs) (types.List t) ≡ true
list_typed vs t h = rolled (Value-F.List vs) (CelType-F.List t) (made.List vs) (types.List t) (value.rolls-List vs) (type.rolls-List t) h

pub map_typed : (es : List MapEntry) (t : CelType) → all_of_type (map entry_of_type es) t ≡ true → of_type (made.Map es) (types.Map t) ≡ true
map_typed es t h = rolled (Value-F.Map es) (CelType-F.Map t) (made.Map es) (types.Map t) (value.rolls-Map es) (type.rolls-Map t) h

pub any_typed : (v : Value) → of_type v CelType.Dyn ≡ true
any_typed v = ap (of_type v) (sym type.rolls-Dyn) ∙ from_layer v CelType-F.Dyn refl

pub all_any : (vs : List Value) → all_of_type (map of_type vs) CelType.Dyn ≡ true
all_any [] = refl
all_any (v ∷ vs) = ap (λ b. b && all_of_type (map of_type vs) CelType.Dyn) (any_typed v) ∙ all_any vs

-- the layers of values of the types
pub bool_layer : (v : Value) → of_type v CelType.Bool ≡ true → of_type_step (seen (out-Value v)) CelType-F.Bool ≡ true
bool_layer v h = layer v CelType-F.Bool (ap (of_type v) type.rolls-Bool ∙ h)

pub int_layer : (v : Value) → of_type v CelType.Int ≡ true → of_type_step (seen (out-Value v)) CelType-F.Int ≡ true
int_layer v h = layer v CelType-F.Int (ap (of_type v) type.rolls-Int ∙ h)

pub text_layer : (v : Value) → of_type v CelType.Text ≡ true → of_type_step (seen (out-Value v)) CelType-F.Text ≡ true
text_layer v h = layer v CelType-F.Text (ap (of_type v) type.rolls-Text ∙ h)

pub list_layer : (v : Value) (t : CelType) → of_type v (types.List t) ≡ true → of_type_step (seen (out-Value v)) (CelType-F.List t) ≡ true
list_layer v t h = layer v (CelType-F.List t) (ap (of_type v) (type.rolls-List t) ∙ h)

pub map_layer : (v : Value) (t : CelType) → of_type v (types.Map t) ≡ true → of_type_step (seen (out-Value v)) (CelType-F.Map t) ≡ true
map_layer v t h = layer v (CelType-F.Map t) (ap (of_type v) (type.rolls-Map t) ∙ h)
