-- Visible bytes are text.
use Rattle.std.proofs.Common.{◌≡◌, ◌<◌, ℕ, zero, suc, List, [], ◌∷◌, Bool, true, false, ◌&&◌, cond, get_or, nat_le, length, refl, arith}
use Rattle.std.specs.Prelude.{IsUtf8, Option, None, Some}
use Rattle.std.specs.List.{list_all}
use Rattle.std.proofs.lemmas.Bool.Decides.{nat_tests}
use Rattle.std.proofs.lemmas.Str.{IsUtf8-from_ascii}
use Rattle.base_types.specs.Forms.{is_visible, is_visible_text, passing}
use Rattle.client_proto.specs.Subjects.{is_subject}

first_of_both : (a b : Bool) → (a && b) ≡ true → a ≡ true
first_of_both true b both = refl
first_of_both false b both = both

second_of_both : (a b : Bool) → (a && b) ≡ true → b ≡ true
second_of_both true b both = both
second_of_both false b both = cc both

low : (b : ℕ) → is_visible b ≡ true → b < 128
low b visible = grind (arith, nat_tests)

visible_ascii : (bytes : List ℕ) → list_all is_visible bytes ≡ true → (i : ℕ) → get_or bytes i 0 < 128
visible_ascii [] all i = omega arith
visible_ascii (b ∷ bytes) all zero = low b (first_of_both (is_visible b) (list_all is_visible bytes) all)
visible_ascii (b ∷ bytes) all (suc i) = visible_ascii bytes (second_of_both (is_visible b) (list_all is_visible bytes) all) i

pub no_subject : (bytes : List ℕ) → (IsUtf8 bytes → ⊥) → passing is_subject bytes ≡ None
no_subject bytes bad = by_test (is_subject bytes) refl
  where
    by_test : (b : Bool) → is_subject bytes ≡ b → cond {A = Option (List ℕ)} b (Some bytes) None ≡ None
    by_test true is = absurd (bad (IsUtf8-from_ascii bytes (visible_ascii bytes (second_of_both (nat_le 1 (length bytes)) (is_visible_text bytes) is))))
    by_test false is = refl
