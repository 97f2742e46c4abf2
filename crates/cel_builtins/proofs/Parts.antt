-- A part of a moment as a value.
use Rattle.std.proofs.Common.{◌≡◌, ◌+◌, List, [], ◌∷◌, ◌++◌, ℕ, ℤ, append_assoc, true, Ok, unsigned_abs, ap, refl, ◌∙◌}
use Rattle.jiff_core.specs.declared.civil.date.Date.{Date}
use Rattle.jiff_core.specs.Date.{epoch_day}
use Rattle.cel_builtins.specs.Calendar.{month_of_day, day_in_month}
use Rattle.cel_builtins.specs.Timestamps.{date_text, written_date}
use Rattle.cel_builtins.proofs.Civil.{year_of_date, month_of_date, day_of_date}
use Rattle.cel_values.specs.declared.value.Value.TheVariants as variant
use Rattle.cel_values.specs.declared.value.Value.TheOpen.{Value-F}
use Rattle.cel_builtins.specs.Numbers.{is_moment}
use Rattle.cel_builtins.specs.Outcomes.{Shape}
use Rattle.cel_builtins.specs.Calendar.{part_of}

pub part_is : (part : ℤ → ℤ) (shape : Shape) (s z : ℤ) → (is_moment s ≡ true) × (shape ≡ Value-F.Time s) → part s ≡ z → part_of part shape ≡ Ok (variant.Int z)
part_is part shape s z known e = ap (part_of part) known.1 ∙ rw (known.0, e) refl

pub date_text_at : (d : Date) (day : ℤ) → epoch_day d ≡ day → date_text day ≡ written_date (unsigned_abs d.year) d.month d.day
unfolding date_text
date_text_at d day e =
    ap (λ y. written_date (unsigned_abs y) (month_of_day day) (day_in_month day + 1)) (year_of_date d day e)
    ∙ ap (λ m. written_date (unsigned_abs d.year) m (day_in_month day + 1)) (month_of_date d day e)
    ∙ ap (written_date (unsigned_abs d.year) d.month) (day_of_date d day e)

pub assembled : (d clock t₀ t₁ t₂ t₃ t₄ : List ℕ) → t₀ ≡ [] → t₁ ≡ t₀ ++ d → t₂ ≡ t₁ ++ 84 ∷ [] → t₃ ≡ t₂ ++ clock → t₄ ≡ t₃ ++ 90 ∷ [] → t₄ ≡ d ++ (84 ∷ clock) ++ (90 ∷ [])
assembled d clock t₀ t₁ t₂ t₃ t₄ e₀ e₁ e₂ e₃ e₄ =
    let date : t₁ ≡ d = e₁ ∙ ap (λ t. t ++ d) e₀ in
    let front : t₂ ≡ d ++ 84 ∷ [] = e₂ ∙ ap (λ t. t ++ 84 ∷ []) date in
    e₄ ∙ ap (λ t. t ++ 90 ∷ []) (e₃ ∙ ap (λ t. t ++ clock) front ∙ append_assoc d (84 ∷ []) clock)
