use Rattle.std.proofs.Common.{rules}
use Rattle.wif_tool.proofs.Connected.{connection_of, no_other_of}
use Rattle.wif_tool.proofs.stdio.serve_over.Goals as goal

pub returns-clause-outcome : goal.returns-clause-outcome
returns-clause-outcome g c = λ config held found.
    let stands = c.resume-sts.ensures.stands config held found in (
      stands.0,
      record { kept = stands.1.kept; reads = stands.2 },
      connection_of config stands.0 _ _ _ _ _ _ _ _ _ _ _ _ (c.serve_connection-end.ensures.run config stands.0 stands.1) c.status_of.ensures c.resume-sts.ensures.told
          (search rules),
    )

pub returns-clause-no_other : goal.returns-clause-no_other
returns-clause-no_other g c = no_other_of _ _ c.status_of.ensures c.serve_connection-end.ensures.never_malformed
