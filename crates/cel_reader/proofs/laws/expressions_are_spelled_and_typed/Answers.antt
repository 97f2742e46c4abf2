use Rattle.cel_reader.proofs.ExpressionsFound.{expression_found, expression_only}
use Rattle.cel_reader.proofs.laws.expressions_are_spelled_and_typed.Goals as goal

pub returns : goal.returns
returns c = λ d wanted text e. (expression_found d wanted text e, expression_only d wanted text e)
