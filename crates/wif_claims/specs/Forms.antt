-- What holds of all claims that are read.
use Rattle.std.specs.Prelude.{◌^◌, ◌<◌, ◌≤◌, length, IsUtf8}
use Rattle.std.specs.List.{AllByRecursion}
use Rattle.wif_claims.specs.declared.claims.Claims.{Claims}

-- The claims end below 2^53, and name at most 8 texts that may act.
pub record HasForms (claims : Claims) : Type 0 where
  pub exp : claims.exp < 2 ^ 53
  pub may_act : length claims.may_act ≤ 8
  pub utf8 : AllByRecursion IsUtf8 claims.may_act
