use Rattle.std.proofs.Common.{◌≡◌, ◌++◌, ◌∷◌, [], unsigned_abs, w64, to_z, of_z, ◌∙◌, sym, ap}
use Rattle.std.specs.String.{string_bytes}
use Rattle.std.proofs.lemmas.Int.{to_z-of_z}
use Rattle.jiff_core.specs.Date.{epoch_day}
use Rattle.cel_builtins.specs.Calendar.{day_of, second_of_day}
use Rattle.cel_builtins.specs.Timestamps.{written_date, date_text, clock_text}
use Rattle.cel_builtins.proofs.Parts.{assembled, date_text_at}
use Rattle.cel_builtins.proofs.timestamps.time_text.Goals as goal

pub returns : goal.returns
returns c =
    let s = c.args.seconds in
    let same : to_z w64 (of_z w64 s) ≡ s = to_z-of_z w64 s c.ranges.seconds in
    let day : epoch_day c.date_of.result ≡ day_of s = c.date_of.ensures ∙ ap day_of same in
    let clock : c.second_of_day.result ≡ second_of_day s = c.second_of_day.ensures ∙ ap second_of_day same in
    let d = c.date_of.result in
    let e₁ : string_bytes c.push_date.new.text ≡ string_bytes c.new-text.result ++ written_date (unsigned_abs d.year) d.month d.day = c.in_ok-push_date.ensures in
    let e₂ : string_bytes c.push_byte.new.text ≡ string_bytes c.push_date.new.text ++ 84 ∷ [] = c.in_ok-push_byte.ensures in
    let e₃ : string_bytes c.push_clock.new.text ≡ string_bytes c.push_byte.new.text ++ clock_text c.second_of_day.result = c.in_ok-push_clock.ensures in
    let e₄ : string_bytes c.push_byte-2.new.text ≡ string_bytes c.push_clock.new.text ++ 90 ∷ [] = c.in_ok-push_byte-2.ensures in
    assembled _ _ _ _ _ _ _ c.new-text.ensures.bytes e₁ e₂ e₃ e₄
    ∙ ap (λ x. x ++ (84 ∷ clock_text c.second_of_day.result) ++ (90 ∷ [])) (sym (date_text_at d (day_of s) day))
    ∙ ap (λ n. date_text (day_of s) ++ (84 ∷ clock_text n) ++ (90 ∷ [])) clock
