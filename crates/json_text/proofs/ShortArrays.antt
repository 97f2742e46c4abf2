-- The items of an array.
use Rattle.std.proofs.Common.{◌≡◌, List, [], ◌∷◌, length, refl, ap, suc}
use Rattle.serde_json.specs.View.{items_view}
use Rattle.serde_json.specs.declared.value.Value.{Value}
use Rattle.json_text.specs.Arrays.{count}

pub count_view : (values : List Value) → count (items_view values) ≡ length values
count_view [] = refl
count_view (value ∷ values) = ap suc (count_view values)
