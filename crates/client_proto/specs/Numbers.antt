-- Decimal numbers.
use Rattle.std.specs.Prelude.{ℕ, List, Option, None, Some, option_and_then, if◌then◌else◌, nat_le}
use Rattle.std.specs.Fmt.{decimal}
use Rattle.std.specs.Str.{bytes_eq}
use Rattle.std.specs.Str.Parse.{digits_value}
use Rattle.base_types.specs.Forms.{passing}

-- the number whose decimal the text is: digits without a sign and without a leading zero
abbrev pub decimal_of : List ℕ → Option ℕ
decimal_of text = let n = digits_value 10 text in if bytes_eq text (decimal n) then Some n else None

-- the same, of a number that is at most so much
unfoldable pub decimal_up_to : ℕ → List ℕ → Option ℕ
decimal_up_to most text = option_and_then (passing (λ n. nat_le n most)) (decimal_of text)
