-- The environment that the members of a JSON object give.
use Rattle.std.specs.Prelude.{List, [], ◌∷◌}
use Rattle.serde_json.specs.Data as json
use Rattle.cel_values.specs.declared.env.Binding.{Binding}
use Rattle.cel_values.specs.Values.{value_of}

-- each member binds its name
abbrev pub bindings_of : json.Members → List Binding
bindings_of json.no_members = []
bindings_of (json.member k d ms) = record { name = k; value = value_of d } ∷ bindings_of ms
