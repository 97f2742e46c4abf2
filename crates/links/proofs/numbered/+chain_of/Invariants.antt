use Rattle.links.proofs.numbered.+chain_of.Given as goal

abbrev pub decreases-chain_of : goal.decreases-chain_of
decreases-chain_of l = l.number
