use Rattle.sts_serve.proofs.Cuts as cuts
use Rattle.sts_serve.proofs.laws.one_script.Goals as goal

pub returns-clause-one_frame : goal.returns-clause-one_frame
returns-clause-one_frame c = cuts.one_frame

pub returns-clause-one_cut : goal.returns-clause-one_cut
returns-clause-one_cut c = cuts.one_script
