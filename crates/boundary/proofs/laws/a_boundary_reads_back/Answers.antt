use Rattle.boundary.proofs.Back.{boundary_back}
use Rattle.boundary.proofs.laws.a_boundary_reads_back.Goals as goal

pub returns : goal.returns
returns c = boundary_back
