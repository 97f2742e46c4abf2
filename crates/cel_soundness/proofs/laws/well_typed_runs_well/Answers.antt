use Rattle.cel_soundness.proofs.Soundness.{sound}
use Rattle.cel_soundness.proofs.laws.well_typed_runs_well.Goals as goal

pub returns : goal.returns
returns c decls e t env h s = sound h env s
