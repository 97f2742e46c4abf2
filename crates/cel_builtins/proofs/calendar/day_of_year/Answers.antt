use Rattle.std.proofs.Common.{◌≡◌, ◌-◌, FitsSigned, w64, pos, rules, arith, ◌∙◌, sym, ap}
use Rattle.std.proofs.lemmas.Int.{to_z-of_z}
use Rattle.jiff_core.specs.Date.{epoch_day}
use Rattle.cel_values.specs.declared.value.Value.{out-Value}
use Rattle.cel_builtins.specs.Calendar.{day_of, day_of_year, day_in_year}
use Rattle.cel_builtins.proofs.Civil.{place_of_date}
use Rattle.cel_builtins.proofs.Parts.{part_is}
use Rattle.cel_builtins.proofs.calendar.day_of_year.Goals as goal

pub returns : goal.returns
returns c =
    let s = c.in_ok-moment_of.field-0 in
    let fs : FitsSigned w64 s = search rules in
    let day : epoch_day c.date_of-date.result ≡ day_of s = c.date_of-date.ensures ∙ ap day_of (to_z-of_z w64 s fs) in
    let fz : FitsSigned w64 c.from.result = search rules in
    part_is day_of_year (out-Value c.args.a.now) s _ c.in_ok-moment_of.ensures.value
    (ap pos (let e = place_of_date c.date_of-date.result (day_of s) day in let o = c.day_of_year.ensures.value in let n : day_in_year (day_of s) ≡ c.day_of_year.result - 1 = omega (arith, e, o) in n) ∙ sym c.from.ensures ∙ sym (to_z-of_z w64 c.from.result fz))
