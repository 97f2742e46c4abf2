-- The words of a text, from the cut at its first space.
use Rattle.std.proofs.Common.{◌≡◌, ◌≢◌, ℕ, ◌<◌, ◌==◌, Bool, true, false, List, [], ◌∷◌, ◌++◌, length, get_or, Option, None, Some, MatchOption, nat_le, ◌≤◌, refl, sym, ap, ◌∙◌, arith}
use denote.Ref.{Bor}
use Rattle.std.specs.List.{All, list_all, slice_split}
use Rattle.std.proofs.lemmas.List.{get_or_default}
use Rattle.std.proofs.lemmas.List.Splits.{slice_split_none, slice_split_at, length-slice_split}
use Rattle.std.proofs.lemmas.Bool.Decides.{Decides-eqb}
use Rattle.std.proofs.lemmas.Bool.{le-leb}
use Rattle.std.proofs.lemmas.Option.{cond_some}
use Rattle.base_types.specs.Forms.{passing}
use Rattle.iam_names.specs.Forms.{is_scope_word}
use Rattle.access_token.specs.Forms.{are_words}

abbrev is_space : ℕ → Bool
is_space byte = byte == 32

other_byte : (b : ℕ) (r : Bool) → (r ≡ true → b ≡ 32) → b ≢ 32 → r ≡ false
other_byte b true is other = absurd (other (is refl))
other_byte b false is other = refl

no_space : (text : List ℕ) → ((i : ℕ) → i < length text → get_or text i 0 ≢ 32) → All (λ byte. is_space byte ≡ false) text
no_space text other = λ k d h.
    let same : get_or text k 0 ≡ get_or text k d = get_or_default text k 0 d h in
    other_byte (get_or text k d) _ (Decides-eqb (get_or text k d) 32).0 (rw (← same) (other k h))

pub words-cut : (text : List ℕ) (cut : Option (Bor (List ℕ) × Bor (List ℕ)))
    → MatchOption cut ((i : ℕ) → i < length text → get_or text i 0 ≢ 32)
    (λ x. (text ≡ x.0.now ++ (32 ∷ x.1.now)) × ((i : ℕ) → i < length x.0.now → get_or x.0.now i 0 ≢ 32))
    → MatchOption cut (slice_split is_space text ≡ text ∷ []) (λ x. slice_split is_space text ≡ x.0.now ∷ slice_split is_space x.1.now)
words-cut text None other = slice_split_none is_space text (no_space text other)
words-cut text (Some x) cut = rw cut.0 (slice_split_at is_space x.0.now 32 x.1.now (no_space x.0.now cut.1) refl)

-- few enough words of their form are a scope
pub words-few : (text : List ℕ) (words : List (List ℕ)) → passing (list_all is_scope_word) (slice_split is_space text) ≡ Some words → length words ≤ 16
    → passing are_words (slice_split is_space text) ≡ Some words
words-few text words is few =
    let parts = cond_some (list_all is_scope_word (slice_split is_space text)) (slice_split is_space text) words is in
    let some : 1 ≤ length words = omega (arith, length-slice_split is_space text, ap length parts.1) in
    let many : nat_le 1 (length words) ≡ true = le-leb 1 (length words) some in
    let most : nat_le (length words) 16 ≡ true = le-leb (length words) 16 few in
    let all : list_all is_scope_word words ≡ true = ap (list_all is_scope_word) (sym parts.1) ∙ parts.0 in
    rw (parts.1, many, most, all) refl
