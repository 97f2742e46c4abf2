use Rattle.client_top.proofs.Outcomes.{outcome_told}
use Rattle.client_top.proofs.workers.lease_one.Goals as goal

pub returns-clause-outcome : goal.returns-clause-outcome
returns-clause-outcome g c =
    let e = c.lease_at-answer.ensures in
    rw c.outcome_of.ensures (outcome_told c.args.at c.args.pass.now.view c.lease_at-answer.new.pass.view c.lease_at-answer.result e.leased e.faults)
