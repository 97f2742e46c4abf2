-- Which values hold an opaque one.
use Rattle.std.specs.Prelude.{Bool, true, false, ◌||◌, List, [], ◌∷◌}
use Rattle.cel_values.specs.declared.value.Value.{Value, fold-Value}
use Rattle.cel_values.specs.declared.value.Value.TheOpen.{Value-F}
use Rattle.cel_values.specs.declared.value.MapEntry.{MapEntry}

-- one of them is true
abbrev pub any_of : List Bool → Bool
any_of [] = false
any_of (b ∷ bs) = b || any_of bs

-- the same of a value, from what its parts hold
abbrev pub opaque_step : Value-F Bool Bool → Bool
opaque_step Value-F.Opaque = true
opaque_step (Value-F.List bs) = any_of bs
opaque_step (Value-F.Map bs) = any_of bs
opaque_step Value-F.Null = false
opaque_step (Value-F.Bool b) = false
opaque_step (Value-F.Int z) = false
opaque_step (Value-F.Text t) = false
opaque_step (Value-F.Time z) = false
opaque_step (Value-F.Span z) = false

-- the value is opaque or holds an opaque one
abbrev pub holds_opaque : Value → Bool
holds_opaque = fold-Value Bool Bool opaque_step (λ e. e.value)

-- the value of a map's entry is or holds an opaque one
abbrev pub entry_holds_opaque : MapEntry → Bool
entry_holds_opaque e = holds_opaque e.value
