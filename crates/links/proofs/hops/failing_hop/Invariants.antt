use Rattle.links.specs.State.{chain}
use Rattle.links.proofs.HopPlaces.{PassBefore}
use Rattle.links.proofs.hops.failing_hop.Given as goal

abbrev pub invariant-loop-hop : goal.invariant-loop-hop
invariant-loop-hop l = PassBefore l.state.content.view (chain l.state.content l.parent) l.accounts l.now l.hop
