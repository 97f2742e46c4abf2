-- A JSON text, and what an object has under a name.
use Rattle.std.specs.Prelude.{ℕ, List, map, Option, None, option_and_then, if◌then◌else◌}
use Rattle.std.specs.Str.{is_utf8}
use Rattle.serde_json.specs.Read.{read}
use Rattle.serde_json.specs.Data.{Data, Items, string, array}
use Rattle.serde_json.specs.Find.{get, as_number, as_u64, as_str, as_array}
use Rattle.serde_json.specs.View.{items_of}
use Rattle.json_text.specs.Arrays.{each}

-- the value that bytes are, or none
abbrev pub document : List ℕ → Option Data
document bytes = if is_utf8 bytes then read bytes else None

-- the text under a name
abbrev pub text_at : List ℕ → Data → Option (List ℕ)
text_at name d = option_and_then as_str (get name d)

-- the whole number under a name
abbrev pub whole_number_at : List ℕ → Data → Option ℕ
whole_number_at name d = option_and_then as_u64 (option_and_then as_number (get name d))

-- the texts of an array's items, where each is one
abbrev pub item_texts : Items → Option (List (List ℕ))
item_texts items = each as_str items

-- the list of texts under a name
abbrev pub texts_at : List ℕ → Data → Option (List (List ℕ))
texts_at name d = option_and_then item_texts (option_and_then as_array (get name d))

-- texts as an array
abbrev pub texts_data : List (List ℕ) → Data
texts_data texts = array (items_of (map string texts))
