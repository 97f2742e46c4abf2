use Rattle.std.proofs.Common.{inr}
use Rattle.wif_tool.proofs.Outcome.{opened_as}
use Rattle.wif_tool.proofs.script.script_status.Goals as goal

pub returns-in-Ok-clause-outcome : goal.returns-in-Ok-clause-outcome
returns-in-Ok-clause-outcome g c =
    let found = c.in-Ok.ensures.opened in
    let run = c.run_over.ensures.outcome found.0 _ found.2 in
    inr (found.0, found.1, inr (run.0, run.1, opened_as _ _ _ _ _ _ _ _ _ _ found.3 run.2))
