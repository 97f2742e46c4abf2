-- The parts of a moment in UTC, by the proleptic Gregorian calendar.
use Rattle.std.specs.Prelude.{ℕ, zero, suc, ◌+◌, ◌-◌, ◌/◌, ◌%◌, ℤ, pos, ◌-ℤ◌, unsigned_abs, nat_le, Ok, Err, if◌then◌else◌}
use Rattle.std.specs.Int.{int_div_euclid, int_rem_euclid}
use Rattle.jiff_core.specs.Calendar.{days_of_months, days_from_civil, weekday_number}
use Rattle.jiff_tz.specs.Year.{year_of_day}
use Rattle.cel_values.specs.declared.error.EvalError.TheVariants.{NoOverload, Overflow}
use Rattle.cel_values.specs.declared.value.Value.{Value}
use Rattle.cel_values.specs.declared.value.Value.TheOpen.{Value-F}
use Rattle.cel_builtins.specs.Numbers.{is_moment}
use Rattle.cel_builtins.specs.Outcomes.{Outcome, Shape}

-- the day of a moment, 0 for 1 January 1970
abbrev pub day_of : ℤ → ℤ
day_of seconds = int_div_euclid seconds (pos 86400)

-- the seconds since its midnight
abbrev pub second_of_day : ℤ → ℕ
second_of_day seconds = unsigned_abs (int_rem_euclid seconds (pos 86400))

-- the greatest month, at most so many, that begins by the n-th day of the year, from 0
unfoldable pub month_within : ℕ → ℤ → ℕ → ℕ
month_within zero year n = 0
month_within (suc k) year n = if nat_le (days_of_months year k) n then suc k else month_within k year n

-- the place of a day in its year, from 0
abbrev pub day_in_year : ℤ → ℕ
day_in_year day = unsigned_abs (day -ℤ days_from_civil (year_of_day day) 1 1)

-- the month of a day, from 1
abbrev pub month_of_day : ℤ → ℕ
month_of_day day = month_within 12 (year_of_day day) (day_in_year day)

-- the place of a day in its month, from 0
abbrev pub day_in_month : ℤ → ℕ
day_in_month day = day_in_year day - days_of_months (year_of_day day) (month_of_day day - 1)

-- ---- the getters

abbrev pub full_year : ℤ → ℤ
full_year seconds = year_of_day (day_of seconds)

-- from 0
abbrev pub month : ℤ → ℤ
month seconds = pos (month_of_day (day_of seconds) - 1)

-- from 0
abbrev pub day_of_month : ℤ → ℤ
day_of_month seconds = pos (day_in_month (day_of seconds))

-- from 0
abbrev pub day_of_year : ℤ → ℤ
day_of_year seconds = pos (day_in_year (day_of seconds))

-- the day of the month from 1
abbrev pub date : ℤ → ℤ
date seconds = pos (day_in_month (day_of seconds) + 1)

-- Sunday is 0; weekday_number has 0 for Monday
abbrev pub day_of_week : ℤ → ℤ
day_of_week seconds = pos ((weekday_number (day_of seconds) + 1) % 7)

abbrev pub hours : ℤ → ℤ
hours seconds = pos (second_of_day seconds / 3600)

abbrev pub minutes : ℤ → ℤ
minutes seconds = pos (second_of_day seconds / 60 % 60)

abbrev pub seconds_of_minute : ℤ → ℤ
seconds_of_minute seconds = pos (second_of_day seconds % 60)

-- a part of a moment; what is outside the calendar's range is no moment
abbrev pub part_of : (ℤ → ℤ) → Shape → Outcome
part_of part (Value-F.Time seconds) = if is_moment seconds then Ok (Value.Int (part seconds)) else Err Overflow
part_of part _ = Err NoOverload
