-- Moments as texts, `YYYY-MM-DDTHH:MM:SSZ`.
use Rattle.std.specs.Prelude.{ℕ, ◌+◌, ◌-◌, ◌*◌, ◌/◌, ◌%◌, ◌==◌, ℤ, pos, ◌+ℤ◌, ◌*ℤ◌, unsigned_abs, nat_le, Bool, true, false, ◌&&◌, List, [], ◌∷◌, ◌++◌, codes, slice_index, Ok, Err, if◌then◌else◌}
use Rattle.std.specs.Char.{is_ascii_digit}
use Rattle.jiff_core.specs.Calendar.{days_in_month, days_from_civil}
use Rattle.jiff_tz.specs.Year.{year_of_day}
use Rattle.cel_values.specs.declared.error.EvalError.TheVariants.{NoOverload, BadText}
use Rattle.cel_values.specs.declared.value.Value.{Value}
use Rattle.cel_values.specs.declared.value.Value.TheOpen.{Value-F}
use Rattle.cel_builtins.specs.Calendar.{day_of, second_of_day, month_of_day, day_in_month}
use Rattle.cel_builtins.specs.Outcomes.{Outcome, Shape}

-- ---- written

-- the last two decimal digits of a number
abbrev pub two_digits : ℕ → List ℕ
two_digits n = (48 + n / 10 % 10) ∷ (48 + n % 10) ∷ []

-- the last four decimal digits of a number
abbrev pub four_digits : ℕ → List ℕ
four_digits n = two_digits (n / 100) ++ two_digits n

-- `YYYY-MM-DD`
abbrev pub written_date : ℕ → ℕ → ℕ → List ℕ
written_date year month day = four_digits year ++ (45 ∷ two_digits month) ++ (45 ∷ two_digits day)

-- the same of a day
unfoldable pub date_text : ℤ → List ℕ
date_text day = written_date (unsigned_abs (year_of_day day)) (month_of_day day) (day_in_month day + 1)

-- `HH:MM:SS` of so many seconds since midnight
abbrev pub clock_text : ℕ → List ℕ
clock_text n = two_digits (n / 3600) ++ (58 ∷ two_digits (n / 60 % 60)) ++ (58 ∷ two_digits (n % 60))

-- the text of a moment
abbrev pub moment_text : ℤ → List ℕ
moment_text seconds = date_text (day_of seconds) ++ (84 ∷ clock_text (second_of_day seconds)) ++ (90 ∷ [])

-- ---- read

-- `d` stands for a digit, all else for itself
abbrev pub byte_fits : ℕ → ℕ → Bool
byte_fits f b = if f == 100 then is_ascii_digit b else b == f

-- a text of the form
abbrev pub fits_form : List ℕ → List ℕ → Bool
fits_form [] [] = true
fits_form (f ∷ form) (b ∷ text) = byte_fits f b && fits_form form text
fits_form _ _ = false

-- the form of a moment's text
abbrev pub moment_form : List ℕ
moment_form = codes "dddd-dd-ddTdd:dd:ddZ"

-- the number that the digits at two places write
abbrev pub two_at : ℕ → List ℕ → ℕ
two_at i text = (slice_index text i - 48) * 10 + (slice_index text (i + 1) - 48)

-- the number that the four digits at the front write
abbrev pub year_in : List ℕ → ℕ
year_in text = two_at 0 text * 100 + two_at 2 text

-- the calendar has this date, in the years 1 to 9999
abbrev pub has_date : ℕ → ℕ → ℕ → Bool
has_date year month day = nat_le 1 year && nat_le year 9999 && nat_le 1 month && nat_le month 12 && nat_le 1 day && nat_le day (days_in_month (pos year) month)

-- a clock shows this
abbrev pub has_clock : ℕ → ℕ → ℕ → Bool
has_clock hour minute second = nat_le hour 23 && nat_le minute 59 && nat_le second 59

-- a text of the form whose date and time there are
abbrev pub is_moment_text : List ℕ → Bool
is_moment_text text = fits_form moment_form text && has_date (year_in text) (two_at 5 text) (two_at 8 text) && has_clock (two_at 11 text) (two_at 14 text) (two_at 17 text)

-- the second of the date and time in a text of the form
abbrev pub seconds_in : List ℕ → ℤ
seconds_in text = days_from_civil (pos (year_in text)) (two_at 5 text) (two_at 8 text) *ℤ pos 86400 +ℤ pos (two_at 11 text * 3600 + two_at 14 text * 60 + two_at 17 text)

-- the moment that a text writes
abbrev pub moment_in : List ℕ → Outcome
moment_in text = if is_moment_text text then Ok (Value.Time (seconds_in text)) else Err BadText

-- `timestamp`
abbrev pub as_moment : Shape → Outcome
as_moment (Value-F.Text text) = moment_in text
as_moment (Value-F.Time seconds) = Ok (Value.Time seconds)
as_moment _ = Err NoOverload
