-- Visible bytes are text.
use Rattle.std.proofs.lemmas.Bool.Decides.{nat_tests}
use Rattle.std.proofs.Common.{◌≡◌, ◌<◌, ℕ, zero, suc, List, [], ◌∷◌, get_or, refl, sym, ap, arith}
use Rattle.std.proofs.lemmas.Str.{IsUtf8-from_ascii}
use Rattle.std.specs.Prelude.{Bool, true, false, ◌&&◌, cond, Option, None, Some, IsUtf8}
use Rattle.base_types.specs.Forms.{is_visible, is_visible_text, passing}

first_of_both : (a b : Bool) → (a && b) ≡ true → a ≡ true
first_of_both true b both = refl
first_of_both false b both = both

second_of_both : (a b : Bool) → (a && b) ≡ true → b ≡ true
second_of_both true b both = both
second_of_both false b both = cc both

low : (b : ℕ) → is_visible b ≡ true → b < 128
low b visible = grind (arith, nat_tests)

visible_ascii : (bytes : List ℕ) → is_visible_text bytes ≡ true → (i : ℕ) → get_or bytes i 0 < 128
visible_ascii [] all i = omega arith
visible_ascii (b ∷ bytes) all zero = low b (first_of_both (is_visible b) (is_visible_text bytes) all)
visible_ascii (b ∷ bytes) all (suc i) = visible_ascii bytes (second_of_both (is_visible b) (is_visible_text bytes) all) i

is_false : (b : Bool) → (b ≡ true → ⊥) → b ≡ false
is_false true never = absurd (never refl)
is_false false never = refl

-- bytes that are no text are not visible
pub no_text : (bytes : List ℕ) → (IsUtf8 bytes → ⊥) → None ≡ passing is_visible_text bytes
no_text bytes none =
    sym (ap (λ (b : Bool). cond {A = Option (List ℕ)} b (Some bytes) None) (is_false (is_visible_text bytes) (λ all. none (IsUtf8-from_ascii bytes (visible_ascii bytes all)))))
