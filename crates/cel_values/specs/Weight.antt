-- What a value weighs.
use Rattle.std.specs.Prelude.{ℕ, ◌+◌, ◌-◌, nat_le, Option, None, Some, if◌then◌else◌, length, sum}
use Rattle.cel_values.specs.declared.value.Value.{Value, fold-Value}
use Rattle.cel_values.specs.declared.value.Value.TheOpen.{Value-F, MapEntry-F}
use Rattle.cel_values.specs.declared.value.MapEntry.{MapEntry}

-- a scalar weighs 1, a text 1 and its bytes, a list or a map 1 and its parts
abbrev pub weight_step : Value-F ℕ ℕ → ℕ
weight_step (Value-F.Text t) = 1 + length t
weight_step (Value-F.List weights) = 1 + sum weights
weight_step (Value-F.Map weights) = 1 + sum weights
weight_step Value-F.Null = 1
weight_step (Value-F.Bool b) = 1
weight_step (Value-F.Int z) = 1
weight_step (Value-F.Time z) = 1
weight_step (Value-F.Span z) = 1
weight_step Value-F.Opaque = 1

-- an entry of a map weighs its key's bytes and 1 and its value
abbrev pub entry_weight_step : MapEntry-F ℕ ℕ → ℕ
entry_weight_step e = length e.key + 1 + e.value

-- what a value weighs
abbrev pub weight : Value → ℕ
weight = fold-Value ℕ ℕ weight_step entry_weight_step

-- what an entry of a map weighs
abbrev pub entry_weight : MapEntry → ℕ
entry_weight e = length e.key + 1 + weight e.value

-- the room that is left behind a weight, or none where it is too heavy
abbrev pub room_behind : ℕ → ℕ → Option ℕ
room_behind room w = if nat_le w room then Some (room - w) else None
