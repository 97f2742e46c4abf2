use Rattle.cel_grammar.proofs.Placed as placed
use Rattle.cel_grammar.proofs.parser.one_draft.Goals as goal

pub returns : goal.returns
returns c = placed.one_draft
