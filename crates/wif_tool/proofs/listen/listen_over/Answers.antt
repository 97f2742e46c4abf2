use Rattle.std.proofs.Common.{rules}
use Rattle.wif_tool.proofs.Listened.{listening_of}
use Rattle.wif_tool.proofs.listen.listen_over.Goals as goal

pub returns-clause-outcome : goal.returns-clause-outcome
returns-clause-outcome g c = λ config held found.
    let stands = c.resume-sts.ensures.stands config held found in (
      stands.0,
      record { kept = stands.1.kept; reads = stands.2 },
      listening_of config stands.0 _ _ _ _ _ _ _ _ _ _ _ _ _ _ (c.serve_each-end.ensures.run config stands.0 stands.1) c.status_of.ensures
          (search rules),
    )
