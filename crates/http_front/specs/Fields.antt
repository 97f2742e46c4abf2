-- What the fields of a head say: their values by name, and what the profile makes of them. Names are compared without case.
use Rattle.std.specs.Prelude.{ℕ, Bool, false, ◌&&◌, ◌==◌, nat_lt, List, [], ◌∷◌, length, take, drop, codes, Option, None, Some, if◌then◌else◌}
use Rattle.std.specs.List.{list_all, list_any, before_first}
use Rattle.std.specs.Char.{is_ascii_digit}
use Rattle.std.specs.Str.{str_eq_ignore_ascii_case}
use Rattle.std.specs.Str.Parse.{digits_value}
use Rattle.httparse.specs.Grammar.{trim_ows}
use Rattle.base_types.specs.Forms.{is_visible_text, passing}
use Rattle.http_front.specs.declared.rule.HttpRule.{HttpRule}
use Rattle.http_front.specs.declared.rule.HttpRule.TheVariants.{H7, H8, H9}

-- the names and values of a head's fields, in order
abbrev pub Fields : Type 0
Fields = List (List ℕ × List ℕ)

-- the values of the fields of this name, in order
abbrev pub values : List ℕ → Fields → List (List ℕ)
values name [] = []
values name (field ∷ fields) =
    if str_eq_ignore_ascii_case field.0 name then field.1 ∷ values name fields else values name fields

-- one digit or more
abbrev pub is_digits : List ℕ → Bool
is_digits text = nat_lt 0 (length text) && list_all is_ascii_digit text

-- a token of visible bytes behind `Bearer` and one space
abbrev pub token_in : List ℕ → Option (List ℕ)
token_in value =
    if str_eq_ignore_ascii_case (take 7 value) (codes "bearer ") && nat_lt 7 (length value)
    then passing is_visible_text (drop 7 value) else None

-- the token of the one Authorization field (RFC 6750, section 2.1)
abbrev pub bearer_of : List (List ℕ) → Option (List ℕ)
bearer_of [] = None
bearer_of (value ∷ []) = token_in value
bearer_of (value ∷ other ∷ more) = None

-- the length of the body: 0 where none is told
abbrev pub length_of : List (List ℕ) → ℕ
length_of [] = 0
length_of (value ∷ more) = digits_value 10 value

-- the rule that one Content-Length breaks
abbrev pub size_fault : List ℕ → Option HttpRule
size_fault value = if is_digits value then (if nat_lt 65536 (digits_value 10 value) then Some H9 else None) else Some H8

-- the rule that the Content-Length fields break
abbrev pub length_fault : List (List ℕ) → Option HttpRule
length_fault [] = Some H7
length_fault (value ∷ []) = size_fault value
length_fault (value ∷ other ∷ more) = Some H8

-- the type that a Content-Type names, without parameters
abbrev pub type_named : List ℕ → List ℕ
type_named value = trim_ows (before_first (λ b. b == 59) value)

-- there is one Content-Type, and it is this one
abbrev pub is_of_type : List ℕ → List (List ℕ) → Bool
is_of_type type [] = false
is_of_type type (value ∷ []) = str_eq_ignore_ascii_case (type_named value) type
is_of_type type (value ∷ other ∷ more) = false

-- the body is sent as it is
abbrev pub is_plain : List (List ℕ) → Bool
is_plain codings = list_all (λ coding. str_eq_ignore_ascii_case coding (codes "identity")) codings

-- a Connection field asks for a close
abbrev pub asks_close : List (List ℕ) → Bool
asks_close connections = list_any (λ value. str_eq_ignore_ascii_case value (codes "close")) connections
