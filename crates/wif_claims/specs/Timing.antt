-- How claims stand to a moment.
use Rattle.std.specs.Prelude.{ℕ, nat_le, nat_lt, if◌then◌else◌, Option, None, Some}
use Rattle.wif_claims.specs.declared.claims.Claims.{Claims}
use Rattle.wif_claims.specs.declared.claims.When.{When}
use Rattle.wif_claims.specs.declared.claims.When.TheVariants.{Live, Expired, NotYet}

-- after what comes first is over
abbrev pub begun : Option ℕ → ℕ → When
begun None at = Live
begun (Some nbf) at = if nat_lt at nbf then NotYet else Live

-- expired from exp on, and not yet before nbf
abbrev pub timing_of : Claims → ℕ → When
timing_of claims at = if nat_le claims.exp at then Expired else begun claims.nbf at
