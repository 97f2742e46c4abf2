use Rattle.std.proofs.Common.{inr}
use Rattle.wif_tool.proofs.Connected.{served_as}
use Rattle.wif_tool.proofs.stdio.stdio_status.Goals as goal

pub returns-in-Ok-clause-outcome : goal.returns-in-Ok-clause-outcome
returns-in-Ok-clause-outcome g c =
    let found = c.in-Ok.ensures.opened in
    let run = c.serve_over.ensures.outcome found.0 _ found.2 in
    inr (found.0, found.1, inr (run.0, run.1, served_as _ _ _ _ _ _ _ _ _ _ _ _ found.3 run.2))
