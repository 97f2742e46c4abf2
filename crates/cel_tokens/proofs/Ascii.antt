-- Letters and digits are ASCII.
use Rattle.std.proofs.Common.{◌≡◌, ℕ, zero, suc, ◌<◌, true, List, [], ◌∷◌, arith, slice_index, IsUtf8}
use Rattle.std.proofs.lemmas.Str.{IsUtf8-from_ascii}
use Rattle.std.proofs.lemmas.Bool.Decides.{nat_tests}
use Rattle.cel_tokens.specs.Words.{all_bytes, is_name_byte}
use Rattle.cel_tokens.proofs.Fronts.{and_parts}

name_byte_small : (b : ℕ) → is_name_byte b ≡ true → b < 128
name_byte_small b h = grind (arith, nat_tests)

name_bytes_small : (w : List ℕ) → all_bytes is_name_byte w ≡ true → (i : ℕ) → slice_index w i < 128
name_bytes_small [] h i = omega arith
name_bytes_small (b ∷ w) h zero = name_byte_small b (and_parts (is_name_byte b) (all_bytes is_name_byte w) h).0
name_bytes_small (b ∷ w) h (suc i) = name_bytes_small w (and_parts (is_name_byte b) (all_bytes is_name_byte w) h).1 i

pub name_utf8 : (w : List ℕ) → all_bytes is_name_byte w ≡ true → IsUtf8 w
name_utf8 w h = IsUtf8-from_ascii w (name_bytes_small w h)
