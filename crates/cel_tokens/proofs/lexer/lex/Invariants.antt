use Rattle.std.proofs.Common.{◌≤◌, length}
use Rattle.cel_tokens.proofs.Lexed.{GoesOn}
use Rattle.cel_tokens.proofs.lexer.lex.Given as goal

abbrev pub invariant-loop-rest : goal.invariant-loop-rest
invariant-loop-rest l = record {
  bound : length l.rest ≤ length l.text;
  goes : GoesOn l.text l.rest l.tokens;
}

abbrev pub decreases-loop-rest : goal.decreases-loop-rest
decreases-loop-rest l = length l.rest
