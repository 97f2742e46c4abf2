-- The rules of the form of an exchange (RFC 8693, section 2.1).
use Rattle.std.specs.Prelude.{ℕ, ◌||◌, ◌∷◌, [], not, List, codes, Bool, true, false, Option, None, Some, Result, Err}
use Rattle.std.specs.List.{list_any}
use Rattle.std.specs.Str.{bytes_eq}
use Rattle.base_types.specs.Rules.{fails_if}
use Rattle.exchange_form.specs.Forms.{is_all_text, is_absent, is_repeated, once}
use Rattle.exchange_form.specs.declared.exchange_rule.ExchangeRule.{ExchangeRule}
use Rattle.exchange_form.specs.declared.exchange_rule.ExchangeRule.TheVariants.{E1, E2, E3, E4, E5, E6, E7, E8, E9, E10}
use Rattle.exchange_form.specs.declared.form.Parameter.{Parameter}

-- the value is there and is this one
abbrev pub is_value : List ℕ → Option (List ℕ) → Bool
is_value value None = false
is_value value (Some found) = bytes_eq found value

-- the grant of a token exchange (RFC 8693, section 2.1)
abbrev pub grant_type : List ℕ
grant_type = codes "urn:ietf:params:oauth:grant-type:token-exchange"

-- the types of a subject token that is a JWT (RFC 8693, section 3)
abbrev pub jwt_type : List ℕ
jwt_type = codes "urn:ietf:params:oauth:token-type:jwt"

abbrev pub id_token_type : List ℕ
id_token_type = codes "urn:ietf:params:oauth:token-type:id_token"

-- the type of the tokens that are issued (RFC 8693, section 3)
abbrev pub access_token_type : List ℕ
access_token_type = codes "urn:ietf:params:oauth:token-type:access_token"

-- the type of a subject token from outside
abbrev pub is_outside_type : Option (List ℕ) → Bool
is_outside_type found = is_value jwt_type found || is_value id_token_type found

-- the parameter has one value, and it is the type of access tokens
abbrev pub is_access_token_type : List Parameter → List ℕ → Bool
is_access_token_type form name = is_value access_token_type (once name form)

-- the type of a subject token
abbrev pub is_subject_type : List Parameter → Bool
is_subject_type form = is_outside_type (once (codes "subject_token_type") form) || is_access_token_type form (codes "subject_token_type")

-- parameters that have one value at most
abbrev pub single : List (List ℕ)
single =
    codes "grant_type" ∷ codes "subject_token" ∷ codes "subject_token_type" ∷ codes "actor_token" ∷ codes "actor_token_type"
    ∷ codes "requested_token_type" ∷ codes "scope" ∷ codes "options" ∷ []

-- one of the two is there without the other
abbrev pub is_half : Bool → Bool → Bool
is_half true one = not one
is_half false one = one

-- the rules of the form, in their order
unfoldable pub form_rules : List Parameter → List (Option ExchangeRule)
form_rules form =
    fails_if (not (is_all_text form)) E1 ∷
    fails_if (list_any (is_repeated form) single) E2 ∷
    fails_if (is_absent form (codes "grant_type")) E3 ∷
    fails_if (not (is_value grant_type (once (codes "grant_type") form))) E4 ∷
    fails_if (is_absent form (codes "subject_token")) E5 ∷
    fails_if (not (is_subject_type form)) E6 ∷
    fails_if (not (is_absent form (codes "requested_token_type") || is_access_token_type form (codes "requested_token_type"))) E7 ∷
    fails_if (is_half (is_absent form (codes "actor_token")) (is_absent form (codes "actor_token_type"))) E8 ∷
    fails_if (not (is_absent form (codes "actor_token_type") || is_access_token_type form (codes "actor_token_type"))) E9 ∷
    fails_if (not (is_absent form (codes "resource"))) E10 ∷ []

-- what follows, unless a rule forbids it
abbrev pub unless : {X : Type 0} → Option ExchangeRule → Result X ExchangeRule → Result X ExchangeRule
unless None next = next
unless (Some failed) next = Err failed
