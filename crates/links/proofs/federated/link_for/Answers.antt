use Rattle.links.proofs.Preparing.{held_source}
use Rattle.links.proofs.federated.link_for.Goals as goal

pub returns-clause-link : goal.returns-clause-link
returns-clause-link c =
    held_source c.args.state.now.content c.args.exchange.now c.in_ok-source.source c.link_from.result
    (rw c.as_str.ensures at c.in_ok-source.ensures.source) c.link_from.ensures.link
