-- The heads that are taken, and the first rule of the profile that one breaks.
use Rattle.std.specs.Prelude.{ℕ, ◌≤◌, Bool, not, ◌||◌, ◌==◌, nat_lt, List, [], ◌∷◌, length, map, codes, Option, None, Some}
use Rattle.std.specs.Option.{is_some}
use Rattle.std.specs.Str.{bytes_eq}
use Rattle.httparse.specs.Grammar.{RequestHead, IsRequestHead, print_request}
use Rattle.httparse.specs.Spans.{name_and_value}
use Rattle.base_types.specs.Rules.{fails_if, first_of}
use Rattle.wif_base.specs.declared.route.Route.{Route}
use Rattle.wif_base.specs.declared.route.Route.TheVariants.{Token, Generate, Introspect, Check, Admin}
use Rattle.wif_base.specs.Routes.{route}
use Rattle.http_front.specs.Fields.{Fields, values, length_fault, length_of, bearer_of, is_of_type, is_plain, asks_close}
use Rattle.http_front.specs.declared.rule.HttpRule.{HttpRule}
use Rattle.http_front.specs.declared.rule.HttpRule.TheVariants.{H3, H4, H5, H6, H10}

-- A head of HTTP/1.0 or HTTP/1.1 (RFC 9112), of at most 64 fields and 16,384 bytes.
pub record IsHead (head : RequestHead) : Type 0 where
  pub form : IsRequestHead head
  pub fields : length head.fields ≤ 64
  pub size : length (print_request head) ≤ 16384

-- the names and values of a head's fields
abbrev pub fields_of : RequestHead → Fields
fields_of head = map name_and_value head.fields

-- ---- the rules

-- what the body of a request on this route is
abbrev pub type_of : Option Route → List ℕ
type_of None = []
type_of (Some Token) = codes "application/x-www-form-urlencoded"
type_of (Some (Generate account)) = codes "application/json"
type_of (Some Introspect) = codes "application/x-www-form-urlencoded"
type_of (Some Check) = codes "application/json"
type_of (Some Admin) = codes "application/json"

-- the rules that a head may break, in their order
abbrev pub rules_of : List ℕ → List ℕ → Fields → List (Option HttpRule)
rules_of method target fields =
    fails_if (nat_lt 2048 (length target)) H3 ∷
    fails_if (not (is_some (route target))) H4 ∷
    fails_if (not (bytes_eq method (codes "POST"))) H5 ∷
    fails_if (not (length (values (codes "transfer-encoding") fields) == 0)) H6 ∷
    length_fault (values (codes "content-length") fields) ∷
    fails_if (not (is_of_type (type_of (route target)) (values (codes "content-type") fields))
    || not (is_plain (values (codes "content-encoding") fields))) H10 ∷ []

-- the first of them that a method, a target and fields break
unfoldable pub fault_of : List ℕ → List ℕ → Fields → Option HttpRule
fault_of method target fields = first_of (rules_of method target fields)

-- the first rule that the head breaks
abbrev pub fault : RequestHead → Option HttpRule
fault head = fault_of head.method head.target (fields_of head)

-- ---- what the head says

-- how many bytes follow as the body
abbrev pub body_length : RequestHead → ℕ
body_length head = length_of (values (codes "content-length") (fields_of head))

-- the token that the head brings
abbrev pub bearer : RequestHead → Option (List ℕ)
bearer head = bearer_of (values (codes "authorization") (fields_of head))

-- the connection ends behind a request of version 1.0, and where a field asks for it
abbrev pub closes : RequestHead → Bool
closes head = head.minor == 0 || asks_close (values (codes "connection") (fields_of head))
