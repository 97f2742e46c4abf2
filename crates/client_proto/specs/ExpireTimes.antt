-- When a token of a service account ends, as `YYYY-MM-DDTHH:MM:SSZ` (RFC 3339), perhaps with a fraction of a second.
use Rattle.std.specs.Prelude.{ℕ, ◌+◌, ◌-◌, ◌*◌, ◌==◌, pos, unsigned_abs, nat_le, Bool, true, false, ◌&&◌, List, [], ◌∷◌, take, drop, codes, slice_index, Option, None, Some, if◌then◌else◌}
use Rattle.std.specs.List.{list_any}
use Rattle.std.specs.Char.{is_ascii_digit}
use Rattle.jiff_core.specs.Calendar.{days_in_month, days_from_civil}

-- `d` stands for a digit, all else for itself
abbrev pub byte_fits : ℕ → ℕ → Bool
byte_fits form byte = if form == 100 then is_ascii_digit byte else byte == form

-- a text of the form
abbrev pub fits_form : List ℕ → List ℕ → Bool
fits_form [] [] = true
fits_form [] (byte ∷ text) = false
fits_form (f ∷ form) [] = false
fits_form (f ∷ form) (byte ∷ text) = byte_fits f byte && fits_form form text

-- the form of a date and a time
abbrev pub second_form : List ℕ
second_form = codes "dddd-dd-ddTdd:dd:dd"

-- `Z`, or a point, 1 to 9 digits and `Z`
unfoldable pub end_forms : List (List ℕ)
end_forms =
    codes "Z" ∷ codes ".dZ" ∷ codes ".ddZ" ∷ codes ".dddZ" ∷ codes ".ddddZ" ∷ codes ".dddddZ" ∷ codes ".ddddddZ" ∷ codes ".dddddddZ"
    ∷ codes ".ddddddddZ" ∷ codes ".dddddddddZ" ∷ []

-- what may stand behind the second
abbrev pub is_end : List ℕ → Bool
is_end text = list_any (λ form. fits_form form text) end_forms

-- the number that the digits at two places write
abbrev pub two_at : ℕ → List ℕ → ℕ
two_at i text = (slice_index text i - 48) * 10 + (slice_index text (i + 1) - 48)

-- the number that the four digits at the front write
abbrev pub year_in : List ℕ → ℕ
year_in text = two_at 0 text * 100 + two_at 2 text

-- the calendar has this date, in the years 1970 to 9999
abbrev pub has_date : ℕ → ℕ → ℕ → Bool
has_date year month day =
    nat_le 1970 year && nat_le year 9999 && nat_le 1 month && nat_le month 12 && nat_le 1 day && nat_le day (days_in_month (pos year) month)

-- a clock shows this
abbrev pub has_clock : ℕ → ℕ → ℕ → Bool
has_clock hour minute second = nat_le hour 23 && nat_le minute 59 && nat_le second 59

-- how many days after 1970-01-01 a date is
abbrev pub day_number : ℕ → ℕ → ℕ → ℕ
day_number year month day = unsigned_abs (days_from_civil (pos year) month day)

-- how many seconds after 1970-01-01T00:00:00 the date and the time are, where they are there
abbrev pub second_of : List ℕ → Option ℕ
second_of text =
    if has_date (year_in text) (two_at 5 text) (two_at 8 text) && has_clock (two_at 11 text) (two_at 14 text) (two_at 17 text)
    then Some (day_number (year_in text) (two_at 5 text) (two_at 8 text) * 86400 + (two_at 11 text * 3600 + two_at 14 text * 60 + two_at 17 text))
    else None

-- the moment that a text writes; a fraction is dropped
unfoldable pub expire_time_of : List ℕ → Option ℕ
expire_time_of text = if fits_form second_form (take 19 text) && is_end (drop 19 text) then second_of (take 19 text) else None
