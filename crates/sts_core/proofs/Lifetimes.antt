-- The seconds that a number's decimal text says.
use Rattle.std.proofs.Common.{◌≡◌, ◌<◌, ◌≤◌, ◌-◌, ◌^◌, ℕ, List, length, take, subst, Bool, true, false, ◌&&◌, refl, sym, ap, ◌∙◌, arith}
use Rattle.std.specs.Prelude.{nat_le, Option, None, Some, option_map, MatchOption, Result, Ok}
use Rattle.std.specs.Fmt.{decimal}
use Rattle.std.specs.Result.{result_ok}
use Rattle.std.specs.Str.{IsCharBoundary, bytes_eq}
use Rattle.std.specs.Str.Pattern.{FindsTextSuffix, StripsSuffix}
use Rattle.std.specs.Str.Parse.{digits_value, ParsesUnsigned}
use Rattle.std.proofs.lemmas.Bool.{and_parts, leb-true}
use Rattle.std.proofs.lemmas.Str.Pattern.{ends_text}
use denote.Ref.{Bor}
use Rattle.std.proofs.lemmas.Slice.Eq.{bytes_eq-Decides}
use Rattle.std.proofs.lemmas.Fmt.{decimal_is_IsNumeral, parse-decimal}
use Rattle.wif_base.specs.Routes.{before_suffix}
use Rattle.sts_core.specs.Generated.{is_lifetime, seconds_of}

-- what stands before a suffix, as `strip_suffix` finds it
pub stripped : (p s : List ℕ) (r : Option (Bor (List ℕ))) → MatchOption r (FindsTextSuffix p s None) (λ x. StripsSuffix (FindsTextSuffix p) s x.now)
    → option_map (λ text. text.now) r ≡ before_suffix p s
stripped p s None none = rw (← ends_text false p s none) refl
stripped p s (Some x) (n, found, left, within) =
    let low : n ≤ length s = omega (arith, within) in
    let boundary : IsCharBoundary s (length s - n) = subst (λ k. IsCharBoundary s (length s - k)) (sym found.0) found.2 in
    rw (← ends_text true p s (n, found, low, boundary)) (ap Some (left ∙ ap (λ k. take (length s - k) s) found.0))

-- what a lifetime is: at most 3,600, and its decimal text
record IsWritten (digits : List ℕ) (seconds : ℕ) : Type 0 where
  low : seconds < 2 ^ 64
  text : digits ≡ decimal seconds

written : (digits : List ℕ) (seconds : ℕ) → is_lifetime digits seconds ≡ true → IsWritten digits seconds
written digits seconds is =
    let first = and_parts (nat_le 1 seconds) (nat_le seconds 3600 && bytes_eq digits (decimal seconds)) is in
    let second = and_parts (nat_le seconds 3600) (bytes_eq digits (decimal seconds)) first.1 in
    record { low = omega (arith, leb-true seconds 3600 second.0); text = (bytes_eq-Decides digits (decimal seconds)).0 second.1 }

-- a lifetime's text is read as it
read_as : {E : Type 0} (digits : List ℕ) (seconds : ℕ) (r : Result ℕ E) → is_lifetime digits seconds ≡ true → ParsesUnsigned 64 10 digits r → r ≡ Ok seconds
read_as digits seconds r is parses =
    let by = written digits seconds is in
    parse-decimal 64 seconds digits r by.low by.low by.text parses

value_is : (digits : List ℕ) (seconds : ℕ) → is_lifetime digits seconds ≡ true → digits_value 10 digits ≡ seconds
value_is digits seconds is =
    let by = written digits seconds is in
    ap (digits_value 10) by.text ∙ (decimal_is_IsNumeral seconds by.low).1

pub seconds_said : (digits : List ℕ) (seconds : ℕ) → is_lifetime digits seconds ≡ true → seconds_of digits ≡ Some seconds
seconds_said digits seconds is = let same = value_is digits seconds is in rw (same, is) refl

none_by : {E : Type 0} (digits : List ℕ) (r : Result ℕ E) (passes : Bool) → is_lifetime digits (digits_value 10 digits) ≡ passes
    → (r ≡ Ok (digits_value 10 digits) → passes ≡ false) → ParsesUnsigned 64 10 digits r → seconds_of digits ≡ None
none_by digits r false is other parses = rw is refl
none_by digits r true is other parses = absurd (cc (other (read_as digits (digits_value 10 digits) r is parses)))

-- no number was read
pub none_read : {E : Type 0} (digits : List ℕ) (r : Result ℕ E) → result_ok r ≡ None → ParsesUnsigned 64 10 digits r → seconds_of digits ≡ None
none_read digits r none parses =
    none_by digits r (is_lifetime digits (digits_value 10 digits)) refl (λ same. absurd (cc (none, same))) parses

-- a number was read that is no lifetime
pub other_read : {E : Type 0} (digits : List ℕ) (r : Result ℕ E) (seconds : ℕ) → result_ok r ≡ Some seconds → is_lifetime digits seconds ≡ false
    → ParsesUnsigned 64 10 digits r → seconds_of digits ≡ None
other_read digits r seconds some not parses =
    none_by digits r (is_lifetime digits (digits_value 10 digits)) refl
    (λ same. let found : digits_value 10 digits ≡ seconds = cc (some, same) in ap (is_lifetime digits) found ∙ not) parses
