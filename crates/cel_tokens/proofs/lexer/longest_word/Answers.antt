use Rattle.cel_tokens.proofs.Longest.{first_is}
use Rattle.cel_tokens.proofs.lexer.longest_word.Goals as goal

pub returns : goal.returns
returns c = first_is
