-- The value of the expression language that a JSON value gives.
use Rattle.std.specs.Prelude.{ℤ, List, [], ◌∷◌, Option, None, Some}
use Rattle.serde_json.specs.Data as json
use Rattle.serde_json.specs.Find.{as_i64}
use Rattle.cel_values.specs.declared.value.Value.{Value}
use Rattle.cel_values.specs.declared.value.Value.TheVariants.{Null, Bool, Int, Text, List as ListOf, Map, Opaque}
use Rattle.cel_values.specs.declared.value.MapEntry.{MapEntry}

-- an integer of 64 bits, and any other number as opaque
abbrev pub value_of_number : Option ℤ → Value
value_of_number None = Opaque
value_of_number (Some integer) = Int integer

abbrev mutual
  pub value_of : json.Data → Value
  value_of json.null = Null
  value_of (json.boolean b) = Bool b
  value_of (json.number n) = value_of_number (as_i64 n)
  value_of (json.string s) = Text s
  value_of (json.array ds) = ListOf (values_of ds)
  value_of (json.object ms) = Map (entries_of ms)

  pub values_of : json.Items → List Value
  values_of json.no_items = []
  values_of (json.item d ds) = value_of d ∷ values_of ds

  pub entries_of : json.Members → List MapEntry
  entries_of json.no_members = []
  entries_of (json.member k d ms) = record { key = k; value = value_of d } ∷ entries_of ms
