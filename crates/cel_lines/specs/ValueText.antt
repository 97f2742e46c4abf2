-- The text that a value is printed as: that of a literal, or of a call that gives it.
use Rattle.std.specs.Prelude.{ℕ, ℤ, Bool, true, false, List, [], ◌∷◌, ◌++◌, codes, if◌then◌else◌}
use Rattle.std.specs.Fmt.{signed_decimal}
use Rattle.cel_values.specs.declared.value.Value.{Value, fold-Value}
use Rattle.cel_values.specs.declared.value.Value.TheOpen.{Value-F, MapEntry-F}
use Rattle.cel_values.specs.declared.value.MapEntry.{MapEntry}
use Rattle.cel_tokens.specs.Spelling.{quoted}
use Rattle.cel_builtins.specs.Numbers.{is_moment}
use Rattle.cel_builtins.specs.Timestamps.{moment_text}

-- `true` or `false`
abbrev pub truth_text : Bool → List ℕ
truth_text true = codes "true"
truth_text false = codes "false"

-- a comma, behind another text
abbrev pub separator : Bool → List ℕ
separator behind_another = if behind_another then codes ", " else []

-- the texts, each but the first behind a comma; the first too, if it stands behind another
abbrev pub separated : Bool → List (List ℕ) → List ℕ
separated behind_another [] = []
separated behind_another (text ∷ texts) = separator behind_another ++ (text ++ separated true texts)

-- a moment; what is outside the calendar's range is none
abbrev pub time_value_text : ℤ → List ℕ
time_value_text seconds = if is_moment seconds then codes "timestamp(\"" ++ (moment_text seconds ++ codes "\")") else codes "opaque"

-- a value, from the texts of its parts
abbrev pub value_text_step : Value-F (List ℕ) (List ℕ) → List ℕ
value_text_step Value-F.Null = codes "null"
value_text_step (Value-F.Bool b) = truth_text b
value_text_step (Value-F.Int z) = signed_decimal z
value_text_step (Value-F.Text t) = quoted t
value_text_step (Value-F.List texts) = codes "[" ++ (separated false texts ++ codes "]")
value_text_step (Value-F.Map texts) = codes "{" ++ (separated false texts ++ codes "}")
value_text_step (Value-F.Time z) = time_value_text z
value_text_step (Value-F.Span z) = codes "duration(\"" ++ (signed_decimal z ++ codes "s\")")
value_text_step Value-F.Opaque = codes "opaque"

-- an entry of a map, from the text of its value
abbrev pub entry_text_step : MapEntry-F (List ℕ) (List ℕ) → List ℕ
entry_text_step e = quoted e.key ++ (codes ": " ++ e.value)

-- the text of a value
abbrev pub value_text : Value → List ℕ
value_text = fold-Value (List ℕ) (List ℕ) value_text_step entry_text_step

-- the text of an entry
abbrev pub entry_text : MapEntry → List ℕ
entry_text e = quoted e.key ++ (codes ": " ++ value_text e.value)
