use Rattle.access_token.specs.declared.facts.Facts.{Facts}
use Rattle.links.specs.State.{chain}
use Rattle.links.specs.Facts.{exp_of}
use Rattle.links.proofs.Held.{from_facts, exp_told}
use Rattle.links.proofs.numbered.exp_of.Goals as goal

pub returns : goal.returns
returns c = from_facts (λ (f : Facts). f.exp) exp_of (chain c.args.state.now.content c.args.number) c.facts_of.result.now exp_told c.facts_of.ensures
