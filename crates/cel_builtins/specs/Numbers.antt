-- Arithmetic on integers, moments and spans, and how values are ordered.
use Rattle.std.specs.Prelude.{◌++◌, int_div, int_rem, ℤ, pos, negsuc, ◌+ℤ◌, ◌-ℤ◌, ◌*ℤ◌, neg_ℤ, int_le, Bool, ◌&&◌, not, Ok, Err, if◌then◌else◌}
use Rattle.std.specs.Ordering.{int_eq, int_cmp, bool_cmp, nat_cmp}
use Rattle.std.specs.Cmp.Lexicographic.{slice_cmp}
use Rattle.std.specs.declared.cmp.Ordering.{Ordering}
use Rattle.cel_values.specs.declared.error.EvalError.TheVariants.{NoOverload, Overflow, Divide}
use Rattle.cel_values.specs.declared.value.Value.{Value}
use Rattle.cel_values.specs.declared.value.Value.TheOpen.{Value-F}
use Rattle.cel_values.specs.declared.value.Value.TheViews as made
use Rattle.cel_builtins.specs.Outcomes.{Or, Outcome, Shape, ◌>>=◌, weighed}

-- from the first number to the second
abbrev pub is_between : ℤ → ℤ → ℤ → Bool
is_between least greatest z = int_le least z && int_le z greatest

-- an integer of 64 bits
abbrev pub is_integer : ℤ → Bool
is_integer z = is_between (negsuc 9223372036854775807) (pos 9223372036854775807) z

-- a second from 0001-01-01T00:00:00Z to 9999-12-31T23:59:59Z, counted from 1970-01-01T00:00:00Z
abbrev pub is_moment : ℤ → Bool
is_moment z = is_between (negsuc 62135596799) (pos 253402300799) z

-- so many seconds, some 10,000 years at most
abbrev pub is_span : ℤ → Bool
is_span z = is_between (negsuc 315575999999) (pos 315576000000) z

-- the integer, where it has 64 bits
abbrev pub integer : ℤ → Outcome
integer z = if is_integer z then Ok (Value.Int z) else Err Overflow

-- the moment, where it is in range
abbrev pub moment : ℤ → Outcome
moment z = if is_moment z then Ok (Value.Time z) else Err Overflow

-- the span, where it is in range
abbrev pub span : ℤ → Outcome
span z = if is_span z then Ok (Value.Span z) else Err Overflow

-- truncated toward zero
abbrev pub quotient : ℤ → ℤ → Outcome
quotient a b = if int_eq b (pos 0) then Err Divide else integer (int_div a b)

-- what is left behind the quotient, with the sign of the dividend
abbrev pub remainder : ℤ → ℤ → Outcome
remainder a b = if int_eq b (pos 0) then Err Divide else if is_integer (int_div a b) then Ok (Value.Int (int_rem a b)) else Err Overflow

-- `+`
abbrev pub sum_of : Shape → Shape → Outcome
sum_of (Value-F.Int a) (Value-F.Int b) = integer (a +ℤ b)
sum_of (Value-F.Text a) (Value-F.Text b) = weighed (Value.Text (a ++ b))
sum_of (Value-F.List a) (Value-F.List b) = weighed (made.List (a ++ b))
sum_of (Value-F.Time a) (Value-F.Span b) = moment (a +ℤ b)
sum_of (Value-F.Span a) (Value-F.Time b) = moment (a +ℤ b)
sum_of (Value-F.Span a) (Value-F.Span b) = span (a +ℤ b)
sum_of _ _ = Err NoOverload

-- `-`
abbrev pub difference_of : Shape → Shape → Outcome
difference_of (Value-F.Int a) (Value-F.Int b) = integer (a -ℤ b)
difference_of (Value-F.Time a) (Value-F.Span b) = moment (a -ℤ b)
difference_of (Value-F.Time a) (Value-F.Time b) = span (a -ℤ b)
difference_of (Value-F.Span a) (Value-F.Span b) = span (a -ℤ b)
difference_of _ _ = Err NoOverload

-- `*`
abbrev pub product_of : Shape → Shape → Outcome
product_of (Value-F.Int a) (Value-F.Int b) = integer (a *ℤ b)
product_of _ _ = Err NoOverload

-- `/`
abbrev pub quotient_of : Shape → Shape → Outcome
quotient_of (Value-F.Int a) (Value-F.Int b) = quotient a b
quotient_of _ _ = Err NoOverload

-- `%`
abbrev pub remainder_of : Shape → Shape → Outcome
remainder_of (Value-F.Int a) (Value-F.Int b) = remainder a b
remainder_of _ _ = Err NoOverload

-- `-` of one operand
abbrev pub opposite_of : Shape → Outcome
opposite_of (Value-F.Int a) = integer (neg_ℤ a)
opposite_of _ = Err NoOverload

-- `!`
abbrev pub inverse_of : Shape → Outcome
inverse_of (Value-F.Bool b) = Ok (Value.Bool (not b))
inverse_of _ = Err NoOverload

-- false before true, integers by number, texts by code points (which is the order of their bytes), moments and spans by seconds
abbrev pub order_of : Shape → Shape → Or Ordering
order_of (Value-F.Bool a) (Value-F.Bool b) = Ok (bool_cmp a b)
order_of (Value-F.Int a) (Value-F.Int b) = Ok (int_cmp a b)
order_of (Value-F.Text a) (Value-F.Text b) = Ok (slice_cmp nat_cmp a b)
order_of (Value-F.Time a) (Value-F.Time b) = Ok (int_cmp a b)
order_of (Value-F.Span a) (Value-F.Span b) = Ok (int_cmp a b)
order_of _ _ = Err NoOverload

-- `<`, `<=`, `>` or `>=`, by the orders that it takes
abbrev pub related : (Ordering → Bool) → Shape → Shape → Outcome
related takes a b = order_of a b >>= λ order. Ok (Value.Bool (takes order))
