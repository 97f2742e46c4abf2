-- What the functions of the overload table compute of arguments that a row fits.
use Rattle.std.specs.Prelude.{ℕ, Bool, true, not, ◌&&◌, List, [], ◌∷◌, Option, None, Some, Err, if◌then◌else◌}
use Rattle.std.specs.Ordering.{is_lt, is_le, is_gt, is_ge}
use Rattle.cel_values.specs.declared.error.EvalError.TheVariants.{NoOverload}
use Rattle.cel_values.specs.declared.value.Value.{Value, out-Value}
use Rattle.cel_values.specs.Opacity.{holds_opaque}
use Rattle.cel_builtins.specs.declared.function.Function.{Function}
use Rattle.cel_builtins.specs.declared.function.Function.TheVariants as the
use Rattle.cel_builtins.specs.Calendar.{part_of, full_year, month, day_of_month, day_of_year, date, day_of_week, hours, minutes, seconds_of_minute}
use Rattle.cel_builtins.specs.Durations.{as_integer, as_text, as_span}
use Rattle.cel_builtins.specs.Numbers.{sum_of, difference_of, product_of, quotient_of, remainder_of, opposite_of, inverse_of, related}
use Rattle.cel_builtins.specs.Outcomes.{Outcome, Shape}
use Rattle.cel_builtins.specs.Overloads.{row, kind}
use Rattle.cel_builtins.specs.Texts.{tested_part, contains, has_front, has_end, extracted, split_of, join_of, lowered, size_of}
use Rattle.cel_builtins.specs.Timestamps.{as_moment}

-- a function of one argument
abbrev pub of_one : Function → Shape → Outcome
of_one the.Not a = inverse_of a
of_one the.Neg a = opposite_of a
of_one the.Size a = size_of a
of_one the.LowerAscii a = lowered a
of_one the.Int a = as_integer a
of_one the.String a = as_text a
of_one the.Timestamp a = as_moment a
of_one the.Duration a = as_span a
of_one the.GetFullYear a = part_of full_year a
of_one the.GetMonth a = part_of month a
of_one the.GetDayOfMonth a = part_of day_of_month a
of_one the.GetDayOfYear a = part_of day_of_year a
of_one the.GetDate a = part_of date a
of_one the.GetDayOfWeek a = part_of day_of_week a
of_one the.GetHours a = part_of hours a
of_one the.GetMinutes a = part_of minutes a
of_one the.GetSeconds a = part_of seconds_of_minute a
of_one _ a = Err NoOverload

-- a function of two arguments
abbrev pub of_two : Function → Shape → Shape → Outcome
of_two the.Add a b = sum_of a b
of_two the.Sub a b = difference_of a b
of_two the.Mul a b = product_of a b
of_two the.Div a b = quotient_of a b
of_two the.Rem a b = remainder_of a b
of_two the.Lt a b = related is_lt a b
of_two the.Le a b = related is_le a b
of_two the.Gt a b = related is_gt a b
of_two the.Ge a b = related is_ge a b
of_two the.Contains a b = tested_part contains a b
of_two the.StartsWith a b = tested_part has_front a b
of_two the.EndsWith a b = tested_part has_end a b
of_two the.Extract a b = extracted a b
of_two the.Split a b = split_of a b
of_two the.Join a b = join_of a b
of_two _ a b = Err NoOverload

-- only `size` takes what holds an opaque value
abbrev pub takes : Function → Value → Bool
takes the.Size v = true
takes f v = not (holds_opaque v)

-- an outcome, where a row fits
abbrev pub where_fits : Option ℕ → Outcome → Outcome
where_fits None outcome = Err NoOverload
where_fits (Some kind) outcome = outcome

-- a function of these arguments, by the row of their kinds
abbrev pub applied : Function → List Value → Outcome
applied f (a ∷ []) = if takes f a then where_fits (row f (kind a) 0) (of_one f (out-Value a)) else Err NoOverload
applied f (a ∷ b ∷ []) =
    if takes f a && takes f b then where_fits (row f (kind a) (kind b)) (of_two f (out-Value a) (out-Value b)) else Err NoOverload
applied f _ = Err NoOverload
