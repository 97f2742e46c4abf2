-- What the items of an array say.
use Rattle.std.specs.Prelude.{ℕ, zero, suc, List, [], ◌∷◌, Option, None, Some, option_map, option_and_then, nat_le}
use Rattle.serde_json.specs.Data.{Data, Items, no_items, item}
use Rattle.serde_json.specs.Find.{get, as_array}
use Rattle.base_types.specs.Forms.{passing}

-- what each item says, where each says something
abbrev pub each : {X : Type 0} → (Data → Option X) → Items → Option (List X)
each read no_items = Some []
each read (item d ds) = option_and_then (λ x. option_map (λ xs. x ∷ xs) (each read ds)) (read d)

-- what each item of the array under a name says
abbrev pub list_at : {X : Type 0} → (Data → Option X) → List ℕ → Data → Option (List X)
list_at read name d = option_and_then (each read) (option_and_then as_array (get name d))

-- how many items an array has
abbrev pub count : Items → ℕ
count no_items = zero
count (item d ds) = suc (count ds)

-- an array of at most so many items
abbrev pub short_array : ℕ → Data → Option Items
short_array most d = option_and_then (passing (λ items. nat_le (count items) most)) (as_array d)

-- what each item of an array of at most so many says
abbrev pub short_list : {X : Type 0} → (Data → Option X) → ℕ → Data → Option (List X)
short_list read most d = option_and_then (each read) (short_array most d)
