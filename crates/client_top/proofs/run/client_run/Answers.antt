use Rattle.std.proofs.Common.{◌≡◌, subst}
use Rattle.client_top.specs.Asks.{AreAsks}
use Rattle.client_top.specs.declared.words.Run.{Run}
use Rattle.client_top.proofs.run.client_run.Goals as goal

pub returns-in-Ok-Some-clause-complete : goal.returns-in-Ok-Some-clause-complete
returns-in-Ok-Some-clause-complete g c = λ run is file client told says bytes asks told' are.
    let same : run ≡ c.in-Ok-Some.run' = cc (c.in-Ok-Some.ensures.run, c.in-Ok-Some.field-0-is, is) in
    c.run_as.ensures.complete file client told says bytes asks told' (subst (λ (r : Run). AreAsks r.workers bytes asks) same are)
