-- A text is of a form by its bytes.
use Rattle.std.proofs.Common.{◌≡◌, ◌≢◌, ◌+◌, ◌<◌, ℕ, suc, Bool, false, true, ◌&&◌, cond, List, [], ◌∷◌, length, take, drop, get_or, refl, ap, add-one, drop-cons, arith, length-take}
use Rattle.std.specs.Prelude.{Option, None}
use Rattle.client_proto.specs.ExpireTimes.{byte_fits, fits_form, second_form, second_of, is_end, expire_time_of}

pub other_form : (form text : List ℕ) → length form ≢ length text → fits_form form text ≡ false
other_form [] [] h = absurd (h refl)
other_form [] (b ∷ text) h = refl
other_form (f ∷ form) [] h = refl
other_form (f ∷ form) (b ∷ text) h =
    elim (byte_fits f b) as (λ t. (t && fits_form form text) ≡ false) [ true ↦ other_form form text (λ e. h (ap suc e)) | false ↦ refl ]

pub form_from : (form text : List ℕ) (i f b : ℕ) → i < length form → i < length text → fits_form (drop i form) (drop i text) ≡ (byte_fits (get_or form i f) (get_or text i b) && fits_form (drop (i + 1) form) (drop (i + 1) text))
form_from form text i f b h k = rw (add-one, drop-cons form i f, drop-cons text i b)

-- a text that is too short says no time
pub short_time : (text : List ℕ) → length text < 19 → expire_time_of text ≡ None
unfolding expire_time_of
short_time text short =
    let none : fits_form second_form (take 19 text) ≡ false = other_form second_form (take 19 text) (λ e. omega (arith, e, length-take 19 text, short)) in
    ap (λ (b : Bool). cond {A = Option ℕ} (b && is_end (drop 19 text)) (second_of (take 19 text)) None) none
