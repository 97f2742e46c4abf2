-- The functions of a day number give a date's parts.
use Rattle.std.proofs.Common.{◌≡◌, ℕ, zero, suc, ◌+◌, ◌-◌, ◌<◌, ◌≤◌, ℤ, pos, ◌-ℤ◌, unsigned_abs, refl, ap, sym, ◌∙◌, arith, inl, inr}
use Rattle.std.proofs.lemmas.Bool.Decides.{leb_tells}
use Rattle.jiff_core.specs.declared.civil.date.Date.{Date}
use Rattle.jiff_core.specs.Calendar.{days_of_months, days_from_civil}
use Rattle.jiff_core.specs.Date.{epoch_day, ordinal}
use Rattle.jiff_core.proofs.DateLemmas.{civil, epoch_day-ordinal}
use Rattle.jiff_core.proofs.CalendarLemmas.{days_of_months_more, days_of_months_mono}
use Rattle.jiff_core.proofs.SignedLemmas.{signed_arith}
use Rattle.jiff_tz.specs.Year.{year_of_day}
use Rattle.jiff_tz.proofs.YearLemmas.{year_of_day-date}
use Rattle.cel_builtins.specs.Calendar.{month_within, day_in_year, month_of_day, day_in_month}

month_within_is : (k m : ℕ) (y : ℤ) (n : ℕ) → 1 ≤ m → m ≤ k → days_of_months y (m - 1) ≤ n → n < days_of_months y m → month_within k y n ≡ m
unfolding month_within
month_within_is zero m y n some within begun over = absurd (omega arith)
month_within_is (suc k) m y n some within begun over = elim (leb_tells (days_of_months y k) n) [
  | inl fits ↦ rw fits.0 (elim (leb_tells m k) [
    | inl small ↦ let later = days_of_months_mono y m k small.1 in absurd (omega (arith, fits.1))
    | inr big ↦ omega (arith, big.1)
  ])
  | inr past ↦ rw past.0 (month_within_is k m y n some (elim (leb_tells m k) [
    | inl small ↦ small.1
    | inr big ↦ let same : m - 1 ≡ k = omega (arith, big.1) in let e = ap (days_of_months y) same in absurd (omega (arith, past.1))
  ]) begun over)
]

day_in_year-date : (d : Date) → day_in_year (epoch_day d) + 1 ≡ ordinal d
day_in_year-date d =
    let place = epoch_day-ordinal d in
    let some : 1 ≤ d.day = (civil d).2.0 in
    let ord : ordinal d ≡ days_of_months d.year (d.month - 1) + d.day = refl in
    let here : day_in_year (epoch_day d) ≡ unsigned_abs (epoch_day d -ℤ days_from_civil d.year 1 1) = ap (λ y. unsigned_abs (epoch_day d -ℤ days_from_civil y 1 1)) (year_of_day-date d) in
    let gap : epoch_day d -ℤ days_from_civil d.year 1 1 ≡ pos (ordinal d - 1) = omega (arith, signed_arith) in
    let n : day_in_year (epoch_day d) ≡ ordinal d - 1 = here ∙ ap unsigned_abs gap in
    omega arith

month_of_day-date : (d : Date) → month_of_day (epoch_day d) ≡ d.month
month_of_day-date d =
    let date = civil d in
    let month_in = date.1 in
    let day_in = date.2 in
    let n = day_in_year (epoch_day d) in
    let place : n + 1 ≡ days_of_months d.year (d.month - 1) + d.day = day_in_year-date d in
    let next = days_of_months_more d.year d.month month_in.0 in
    ap (λ y. month_within 12 y n) (year_of_day-date d)
    ∙ month_within_is 12 d.month d.year n month_in.0 month_in.1 (omega (arith, day_in.0)) (omega (arith, day_in.1))

day_in_month-date : (d : Date) → day_in_month (epoch_day d) + 1 ≡ d.day
day_in_month-date d =
    let n = day_in_year (epoch_day d) in
    let place : n + 1 ≡ days_of_months d.year (d.month - 1) + d.day = day_in_year-date d in
    let some : 1 ≤ d.day = (civil d).2.0 in
    let here : day_in_month (epoch_day d) ≡ n - days_of_months d.year (d.month - 1) = rw (month_of_day-date d, year_of_day-date d) refl in
    omega arith

-- ---- the parts of the date of a day

pub year_of_date : (d : Date) (day : ℤ) → epoch_day d ≡ day → year_of_day day ≡ d.year
year_of_date d day e = ap year_of_day (sym e) ∙ year_of_day-date d

pub month_of_date : (d : Date) (day : ℤ) → epoch_day d ≡ day → month_of_day day ≡ d.month
month_of_date d day e = ap month_of_day (sym e) ∙ month_of_day-date d

pub day_of_date : (d : Date) (day : ℤ) → epoch_day d ≡ day → day_in_month day + 1 ≡ d.day
day_of_date d day e = ap (λ x. day_in_month x + 1) (sym e) ∙ day_in_month-date d

pub place_of_date : (d : Date) (day : ℤ) → epoch_day d ≡ day → day_in_year day + 1 ≡ ordinal d
place_of_date d day e = ap (λ x. day_in_year x + 1) (sym e) ∙ day_in_year-date d
