use Rattle.cel_tokens.proofs.Lexed.{one_list}
use Rattle.cel_tokens.proofs.lexer.one_lexing.Goals as goal

pub returns : goal.returns
returns c = λ text a b s t d e. one_list d e
