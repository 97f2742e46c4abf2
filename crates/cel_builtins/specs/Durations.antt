-- Spans as texts, such as `1h30m` and `-90s`, and the other conversions.
use Rattle.std.specs.Prelude.{ℕ, ◌+◌, ◌-◌, ◌*◌, ◌==◌, ℤ, pos, neg_ℤ, Bool, true, false, List, [], ◌∷◌, drop, length, codes, Option, None, Some, option_map, Ok, Err, if◌then◌else◌}
use Rattle.std.specs.Char.{is_ascii_digit}
use Rattle.std.specs.Fmt.{signed_decimal}
use Rattle.std.specs.Str.Parse.{starts_with_minus}
use Rattle.cel_values.specs.declared.error.EvalError.TheVariants.{NoOverload, BadText, Overflow}
use Rattle.cel_values.specs.declared.value.Value.{Value}
use Rattle.cel_values.specs.declared.value.Value.TheOpen.{Value-F}
use Rattle.cel_builtins.specs.Numbers.{is_integer, is_moment, is_span}
use Rattle.cel_builtins.specs.Outcomes.{Outcome, Shape}
use Rattle.cel_builtins.specs.Timestamps.{moment_text}

-- ---- numbers

-- the number that digits write behind a number that stands already, or none where one is no digit
abbrev pub number_behind : ℕ → List ℕ → Option ℕ
number_behind n [] = Some n
number_behind n (b ∷ t) = if is_ascii_digit b then number_behind (n * 10 + (b - 48)) t else None

-- the number that one or more digits write
abbrev pub number_in : List ℕ → Option ℕ
number_in text = if length text == 0 then None else number_behind 0 text

-- the text behind a sign
abbrev pub unsigned_text : List ℕ → List ℕ
unsigned_text text = if starts_with_minus text then drop 1 text else text

-- below zero where a minus stands in front
abbrev pub signed : List ℕ → ℕ → ℤ
signed text n = if starts_with_minus text then neg_ℤ (pos n) else pos n

-- a value, where the number passes the test
abbrev pub where_good : (ℤ → Bool) → (ℤ → Value) → Option ℤ → Outcome
where_good test make None = Err BadText
where_good test make (Some z) = if test z then Ok (make z) else Err BadText

-- an integer as a value
abbrev pub integer_value : ℤ → Value
integer_value z = Value.Int z

-- a span as a value
abbrev pub span_value : ℤ → Value
span_value z = Value.Span z

-- an optional minus and digits, in range
abbrev pub integer_in : List ℕ → Outcome
integer_in text = where_good is_integer integer_value (option_map (signed text) (number_in (unsigned_text text)))

-- ---- spans

-- so many seconds has an hour, a minute or a second
abbrev pub unit : ℕ → Option ℕ
unit b = if b == 104 then Some 3600 else if b == 109 then Some 60 else if b == 115 then Some 1 else None

-- the digit behind the digits of a number
abbrev pub with_digit : Option ℕ → ℕ → ℕ
with_digit None b = b - 48
with_digit (Some n) b = n * 10 + (b - 48)

-- the seconds of a number with its unit, beside those of the parts before it
abbrev pub with_part : ℕ → Option ℕ → Option ℕ → Option ℕ
with_part total (Some n) (Some seconds) = Some (total + n * seconds)
with_part total _ _ = None

-- The seconds of the parts of a text: each is a number and its unit. `pending` is the number that is being read, `total` are
-- the seconds of the parts before it; none where a number or a unit is missing.
abbrev pub seconds_behind : Option ℕ → Option ℕ → List ℕ → Option ℕ
seconds_behind pending None text = None
seconds_behind None (Some total) [] = Some total
seconds_behind (Some n) (Some total) [] = None
seconds_behind pending (Some total) (b ∷ text) =
    if is_ascii_digit b then seconds_behind (Some (with_digit pending b)) (Some total) text
    else seconds_behind None (with_part total pending (unit b)) text

-- one or more parts
abbrev pub parts_seconds : List ℕ → Option ℕ
parts_seconds text = if length text == 0 then None else seconds_behind None (Some 0) text

-- an optional minus and parts, in range
abbrev pub span_in : List ℕ → Outcome
span_in text = where_good is_span span_value (option_map (signed text) (parts_seconds (unsigned_text text)))

-- `duration`
abbrev pub as_span : Shape → Outcome
as_span (Value-F.Text text) = span_in text
as_span (Value-F.Span seconds) = Ok (Value.Span seconds)
as_span _ = Err NoOverload

-- ---- the other conversions

-- `int`
abbrev pub as_integer : Shape → Outcome
as_integer (Value-F.Int z) = Ok (Value.Int z)
as_integer (Value-F.Text text) = integer_in text
as_integer (Value-F.Time seconds) = Ok (Value.Int seconds)
as_integer _ = Err NoOverload

-- `true` or `false`
abbrev pub truth_text : Bool → List ℕ
truth_text true = codes "true"
truth_text false = codes "false"

-- `string`; what is outside the calendar's range is no moment
abbrev pub as_text : Shape → Outcome
as_text (Value-F.Text text) = Ok (Value.Text text)
as_text (Value-F.Int z) = Ok (Value.Text (signed_decimal z))
as_text (Value-F.Bool b) = Ok (Value.Text (truth_text b))
as_text (Value-F.Time seconds) = if is_moment seconds then Ok (Value.Text (moment_text seconds)) else Err Overflow
as_text _ = Err NoOverload
