-- What expressions see: names with their values, and with their types.
use Rattle.std.specs.Prelude.{ℕ, List}
use Rattle.cel_values.specs.declared.env.Binding.{Binding}
use Rattle.cel_values.specs.declared.value.Value.{Value}
use Rattle.cel_values.specs.declared.value.MapEntry.{MapEntry}
use Rattle.cel_types.specs.declared.cel_type.CelType.{CelType}
use Rattle.cel_types.specs.declared.cel_type.CelType.TheViews as types
use Rattle.cel_types.specs.declared.cel_type.Declaration.{Declaration}

-- a name that stands for a value
abbrev pub bound : List ℕ → Value → Binding
bound name value = record { name = name; value = value }

-- an entry of a map
abbrev pub entry : List ℕ → Value → MapEntry
entry key value = record { key = key; value = value }

-- a name that is declared as a map of values of a type
abbrev pub declared_map : List ℕ → CelType → Declaration
declared_map name values = record { name = name; of = types.Map values }
