use Rattle.cel_grammar.proofs.Completed.{can_begin, cannot_begin}
use Rattle.cel_grammar.proofs.parser.viable_prefix.Goals as goal

pub returns : goal.returns
returns c = record { taken = can_begin; refused = cannot_begin }
