use Rattle.boundary.proofs.AllowedRules.{boundary-Decides}
use Rattle.boundary.proofs.laws.a_boundary_allows_by_its_rules.Goals as goal

pub returns : goal.returns
returns c = λ roles boundary permission resource now. boundary-Decides roles boundary permission resource now
