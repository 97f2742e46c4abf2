-- The rules of the profile: their numbers, and the status, the word and the code of the reply to a request that breaks one.
use Rattle.std.specs.Prelude.{◌≡◌, ◌⊎◌, ℕ, List, codes}
use Rattle.http_front.specs.declared.rule.HttpRule.{HttpRule}
use Rattle.http_front.specs.declared.rule.HttpRule.TheVariants.{H1, H2, H3, H4, H5, H6, H7, H8, H9, H10, H11}

-- the place of a rule among the rules
abbrev pub number_of : HttpRule → ℕ
number_of H1 = 1
number_of H2 = 2
number_of H3 = 3
number_of H4 = 4
number_of H5 = 5
number_of H6 = 6
number_of H7 = 7
number_of H8 = 8
number_of H9 = 9
number_of H10 = 10
number_of H11 = 11

-- the status of the reply (RFC 9110, section 15; for H2 RFC 6585)
abbrev pub status : HttpRule → ℕ
status H1 = 400
status H2 = 431
status H3 = 414
status H4 = 404
status H5 = 405
status H6 = 501
status H7 = 411
status H8 = 400
status H9 = 413
status H10 = 415
status H11 = 400

-- the error word of a refusal
abbrev pub word : HttpRule → List ℕ
word H1 = codes "bad_request"
word H2 = codes "head_too_large"
word H3 = codes "target_too_long"
word H4 = codes "not_found"
word H5 = codes "method_not_allowed"
word H6 = codes "not_implemented"
word H7 = codes "length_required"
word H8 = codes "bad_request"
word H9 = codes "body_too_large"
word H10 = codes "unsupported_media_type"
word H11 = codes "bad_request"

-- the code of a refusal
abbrev pub code : HttpRule → List ℕ
code H1 = codes "H1"
code H2 = codes "H2"
code H3 = codes "H3"
code H4 = codes "H4"
code H5 = codes "H5"
code H6 = codes "H6"
code H7 = codes "H7"
code H8 = codes "H8"
code H9 = codes "H9"
code H10 = codes "H10"
code H11 = codes "H11"

-- the two rules that speak of bytes without a head
abbrev pub IsOfNoHead : HttpRule → Type 0
IsOfNoHead rule = (rule ≡ H1) ⊎ (rule ≡ H2)
