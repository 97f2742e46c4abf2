-- A text is of a form by its bytes.
use Rattle.std.proofs.Common.{◌≡◌, ◌≢◌, ◌+◌, ◌<◌, ℕ, suc, false, true, ◌&&◌, List, [], ◌∷◌, length, drop, get_or, refl, ap, add-one, drop-cons}
use Rattle.cel_builtins.specs.Timestamps.{byte_fits, fits_form}

pub other_form : (form text : List ℕ) → length form ≢ length text → fits_form form text ≡ false
other_form [] [] h = absurd (h refl)
other_form [] (b ∷ text) h = refl
other_form (f ∷ form) [] h = refl
other_form (f ∷ form) (b ∷ text) h =
    elim (byte_fits f b) as (λ t. (t && fits_form form text) ≡ false) [ true ↦ other_form form text (λ e. h (ap suc e)) | false ↦ refl ]

pub form_from : (form text : List ℕ) (i f b : ℕ) → i < length form → i < length text → fits_form (drop i form) (drop i text) ≡ (byte_fits (get_or form i f) (get_or text i b) && fits_form (drop (i + 1) form) (drop (i + 1) text))
form_from form text i f b h k = rw (add-one, drop-cons form i f, drop-cons text i b)
