-- What the body of a request says: a form (application/x-www-form-urlencoded), or a JSON object.
use Rattle.std.specs.Prelude.{ℕ, ◌&&◌, ◌==◌, ◌||◌, List, [], ◌∷◌, length, map, Bool, true, false, not, nat_lt, Option}
use Rattle.std.specs.Prelude.{None, Some, is_some, option_and_then, if◌then◌else◌}
use Rattle.std.specs.List.{list_all}
use Rattle.std.specs.Str.{bytes_eq}
use Rattle.std.specs.Str.Lossy.{utf8_lossy}
use Rattle.form_urlencoded.specs.Form.{raw_pairs, decode}
use Rattle.base_types.specs.Forms.{passing}
use Rattle.json_text.specs.Document.{document}
use Rattle.serde_json.specs.Data.{Data}
use Rattle.serde_json.specs.Find.{as_object}
use Rattle.exchange_form.specs.declared.form.Parameter.{Parameter}

-- a name and a value as they are decoded, with U+FFFD where the bytes are no UTF-8
abbrev pub parameter_of : List ℕ × List ℕ → Parameter
parameter_of pair = record { name = utf8_lossy (decode pair.0); value = utf8_lossy (decode pair.1) }

-- the parameters of a body, in order
abbrev pub form_of : List ℕ → List Parameter
form_of body = map parameter_of (raw_pairs body)

-- U+FFFD is there
abbrev pub holds_replacement : List ℕ → Bool
holds_replacement (a ∷ b ∷ c ∷ rest) = (a == 239 && b == 191 && c == 189) || holds_replacement (b ∷ c ∷ rest)
holds_replacement short = false

-- a name or value counts as no UTF-8 where U+FFFD is there
abbrev pub is_text : Parameter → Bool
is_text parameter = not (holds_replacement parameter.name) && not (holds_replacement parameter.value)

-- each name and each value is UTF-8
abbrev pub is_all_text : List Parameter → Bool
is_all_text form = list_all is_text form

-- a parameter without a value counts as absent
abbrev pub has_value : List ℕ → Parameter → Bool
has_value name parameter = bytes_eq parameter.name name && nat_lt 0 (length parameter.value)

-- the values of a parameter
abbrev pub values : List ℕ → List Parameter → List (List ℕ)
values name [] = []
values name (parameter ∷ form) = if has_value name parameter then parameter.value ∷ values name form else values name form

-- the value of a list that has exactly one
abbrev pub only : List (List ℕ) → Option (List ℕ)
only [] = None
only (value ∷ []) = Some value
only (value ∷ other ∷ more) = None

-- the one value of a parameter that has exactly one
abbrev pub once : List ℕ → List Parameter → Option (List ℕ)
once name form = only (values name form)

-- the list is empty
abbrev pub has_none : List (List ℕ) → Bool
has_none [] = true
has_none (value ∷ more) = false

-- the parameter has no value
abbrev pub is_absent : List Parameter → List ℕ → Bool
is_absent form name = has_none (values name form)

-- the list has two or more
abbrev pub has_two : List (List ℕ) → Bool
has_two [] = false
has_two (value ∷ []) = false
has_two (value ∷ other ∷ more) = true

-- the parameter has a value twice
abbrev pub is_repeated : List Parameter → List ℕ → Bool
is_repeated form name = has_two (values name form)

-- ---- JSON objects

-- the value is a JSON object
abbrev pub is_object : Data → Bool
is_object d = is_some (as_object d)

-- the object that bytes are
abbrev pub object_of : List ℕ → Option Data
object_of bytes = option_and_then (passing is_object) (document bytes)
