use Rattle.std.proofs.Common.{◌≡◌, FitsSigned, w64, rules, ◌∙◌, sym, ap}
use Rattle.std.proofs.lemmas.Int.{to_z-of_z}
use Rattle.jiff_core.specs.Date.{epoch_day}
use Rattle.jiff_core.proofs.DateLemmas.{civil}
use Rattle.jiff_tz.proofs.YearLemmas.{back_year}
use Rattle.cel_values.specs.declared.value.Value.{out-Value}
use Rattle.cel_builtins.specs.Calendar.{day_of, full_year}
use Rattle.cel_builtins.proofs.Civil.{year_of_date}
use Rattle.cel_builtins.proofs.Parts.{part_is}
use Rattle.cel_builtins.proofs.calendar.full_year.Goals as goal

pub returns : goal.returns
returns c =
    let s = c.in_ok-moment_of.field-0 in
    let fs : FitsSigned w64 s = search rules in
    let day : epoch_day c.date_of-date.result ≡ day_of s = c.date_of-date.ensures ∙ ap day_of (to_z-of_z w64 s fs) in
    let fz : FitsSigned w64 c.from.result = search rules in
    part_is full_year (out-Value c.args.a.now) s _ c.in_ok-moment_of.ensures.value
    (year_of_date c.date_of-date.result (day_of s) day ∙ sym (back_year c.date_of-date.result.year (civil c.date_of-date.result).0) ∙ sym c.from.ensures ∙ sym (to_z-of_z w64 c.from.result fz))
