-- What stands for bytes that may not be UTF-8 is UTF-8.
use Rattle.std.proofs.Common.{◌≡◌, ℕ, zero, suc, ◌+◌, ◌-◌, Option, Some, None, slice_index, ◌==◌, nat_lt, ◌≤◌, ◌<◌, Bool, true, false, cond, List, [], ◌∷◌, length, take, drop, refl, sym, ap, ◌∙◌, subst, arith, IsUtf8, length-drop, ◌⊎◌, inl, inr}
use Rattle.std.specs.Int.{is_in_range}
use Rattle.std.specs.Option.{unwrap_or}
use Rattle.std.specs.Str.{is_utf8}
use Rattle.std.proofs.Math.Seq.{take-length}
use Rattle.std.specs.Str.Lossy.{utf8_lossy, utf8_valid_len, valid_len_up_to, second_byte_min, second_byte_max, error_len_after_two, error_len_after_one, error_len_of_some, utf8_error_len, utf8_invalid_len, after_first_chunk, replacement_bytes}
use Rattle.cel_tokens.proofs.Fronts.{either}
use Rattle.std.proofs.lemmas.Str.{IsUtf8-from_is_utf8, IsUtf8-append, IsUtf8-nil, utf8_valid_len_le, utf8_lossy-IsUtf8, utf8_lossy_step}

front_at : (bs : List ℕ) (n : ℕ) (t : Bool) → is_utf8 (take (suc n) bs) ≡ t → IsUtf8 (take (valid_len_up_to bs n) bs) → IsUtf8 (take (cond t (suc n) (valid_len_up_to bs n)) bs)
front_at bs n true h more = IsUtf8-from_is_utf8 (take (suc n) bs) h
front_at bs n false h more = more

front_up_to : (bs : List ℕ) (n : ℕ) → IsUtf8 (take (valid_len_up_to bs n) bs)
front_up_to bs zero = IsUtf8-nil
front_up_to bs (suc n) = front_at bs n (is_utf8 (take (suc n) bs)) refl (front_up_to bs n)

valid_front : (bs : List ℕ) → IsUtf8 (take (utf8_valid_len bs) bs)
unfolding utf8_valid_len
valid_front bs = front_up_to bs (length bs)

replaced : IsUtf8 replacement_bytes
unfolding lib.Utf8.encode
replaced = (0xFFFD ∷ [], (refl, refl))

-- a count of bytes, where there are some
abbrev IsSomeOf : List ℕ → Option ℕ → Type 0
IsSomeOf bs o = 0 < unwrap_or o (length bs)

invalid_some : (bs : List ℕ) → 0 < length bs → 0 < utf8_invalid_len bs
unfolding utf8_error_len
invalid_some bs some =
    let one : IsSomeOf bs (Some 1) = omega arith in
    let two : IsSomeOf bs (Some 2) = omega arith in
    let three : IsSomeOf bs (Some 3) = omega arith in
    let fourth = either (IsSomeOf bs) (nat_lt (length bs) 4) None (Some 3) some three in
    let third = either (IsSomeOf bs) (is_in_range 0x80 0xBF (slice_index bs 2)) _ (Some 2) fourth two in
    let after_two : IsSomeOf bs (error_len_after_two bs) = either (IsSomeOf bs) (nat_lt (length bs) 3) None _ some third in
    let second = either (IsSomeOf bs) (is_in_range (second_byte_min (slice_index bs 0)) (second_byte_max (slice_index bs 0)) (slice_index bs 1)) (error_len_after_two bs) (Some 1) after_two one in
    let after_one : IsSomeOf bs (error_len_after_one bs) = either (IsSomeOf bs) (nat_lt (length bs) 2) None _ some second in
    let first : IsSomeOf bs (error_len_of_some bs) = either (IsSomeOf bs) (is_in_range 0xC2 0xF4 (slice_index bs 0)) (error_len_after_one bs) (Some 1) after_one one in
    either (IsSomeOf bs) (length bs == 0) None (error_len_of_some bs) some first

shorter : (bs : List ℕ) → ¬ (utf8_valid_len bs ≡ length bs) → length (after_first_chunk bs) < length bs
shorter bs faulty =
    let n = utf8_valid_len bs in
    let within : n ≤ length bs = utf8_valid_len_le bs in
    let left : length (drop n bs) ≡ length bs - n = length-drop n bs in
    let some : 0 < utf8_invalid_len (drop n bs) = invalid_some (drop n bs) (omega arith) in
    let after : length (after_first_chunk bs) ≡ length bs - (n + utf8_invalid_len (drop n bs)) = length-drop (n + utf8_invalid_len (drop n bs)) bs in
    omega arith

whole_or : (a b : ℕ) → (a ≡ b) ⊎ (¬ (a ≡ b))
whole_or a b = grind arith

whole_text : (bs : List ℕ) → utf8_valid_len bs ≡ length bs → IsUtf8 (utf8_lossy bs)
whole_text bs whole =
    let text : IsUtf8 bs = subst IsUtf8 (ap (λ n. take n bs) whole ∙ take-length bs) (valid_front bs) in
    subst IsUtf8 (sym (utf8_lossy-IsUtf8 bs text)) text

lossy_at : (bs : List ℕ) → (length (after_first_chunk bs) < length bs → IsUtf8 (utf8_lossy (after_first_chunk bs))) → (utf8_valid_len bs ≡ length bs) ⊎ (¬ (utf8_valid_len bs ≡ length bs)) → IsUtf8 (utf8_lossy bs)
lossy_at bs more (inl whole) = whole_text bs whole
lossy_at bs more (inr faulty) =
    subst IsUtf8 (sym (utf8_lossy_step bs faulty))
    (IsUtf8-append (take (utf8_valid_len bs) bs) _ (valid_front bs) (IsUtf8-append replacement_bytes (utf8_lossy (after_first_chunk bs)) replaced (more (shorter bs faulty))))

lossy_within : (k : ℕ) (bs : List ℕ) → length bs ≤ k → IsUtf8 (utf8_lossy bs)
lossy_within zero bs bound = let within = utf8_valid_len_le bs in whole_text bs (omega arith)
lossy_within (suc k) bs bound = lossy_at bs (λ less. lossy_within k (after_first_chunk bs) (omega arith)) (whole_or (utf8_valid_len bs) (length bs))

pub IsUtf8-utf8_lossy : (bs : List ℕ) → IsUtf8 (utf8_lossy bs)
IsUtf8-utf8_lossy bs = lossy_within (length bs) bs (omega arith)
