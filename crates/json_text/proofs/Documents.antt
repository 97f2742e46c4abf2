-- Bytes that are JSON, or not.
use Rattle.std.proofs.Common.{◌≡◌, ℕ, List, Bool, true, false, cond, Option, Some, None, refl}
use Rattle.std.specs.Str.{IsUtf8, is_utf8}
use Rattle.std.proofs.lemmas.Str.{is_utf8-from_IsUtf8, IsUtf8-from_is_utf8}
use Rattle.serde_json.specs.Data.{Data}
use Rattle.serde_json.specs.Read.{read}
use Rattle.json_text.specs.Document.{document}

pub document-some : (bs : List ℕ) (d : Data) → IsUtf8 bs → read bs ≡ Some d → document bs ≡ Some d
document-some bs d u e = rw (is_utf8-from_IsUtf8 bs u) e

by_test : (b : Bool) (o : Option Data) → (b ≡ true → o ≡ None) → cond b o None ≡ None
by_test true o h = h refl
by_test false o h = refl

pub document-none : (bs : List ℕ) → (IsUtf8 bs → read bs ≡ None) → document bs ≡ None
document-none bs h = by_test (is_utf8 bs) (read bs) (λ e. h (IsUtf8-from_is_utf8 bs e))
