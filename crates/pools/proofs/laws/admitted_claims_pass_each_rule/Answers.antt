use Rattle.pools.proofs.AdmittedClaims.{rules-passed, passing-admitted}
use Rattle.pools.proofs.laws.admitted_claims_pass_each_rule.Goals as goal

pub returns : goal.returns
returns c = λ provider claims now who. (rules-passed provider claims now who, passing-admitted provider claims now who)
