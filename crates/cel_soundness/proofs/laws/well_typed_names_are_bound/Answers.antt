use Rattle.cel_soundness.proofs.Names.{names_bound}
use Rattle.cel_soundness.proofs.laws.well_typed_names_are_bound.Goals as goal

pub returns : goal.returns
returns c decls e t env h s = names_bound h env s
