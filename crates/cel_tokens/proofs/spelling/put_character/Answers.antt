use Rattle.std.proofs.Common.{rules, arith}
use Rattle.cel_tokens.proofs.Escapes.{plain_character}
use Rattle.cel_tokens.proofs.spelling.put_character.Goals as goal

pub returns-in_default : goal.returns-in_default
returns-in_default c = rw (plain_character c.args.character (record {
  no_backslash = λ e. omega arith;
  no_quote = λ e. omega arith;
  no_line_feed = λ e. omega arith;
  no_return = λ e. omega arith;
  no_tab = λ e. omega arith;
})) (search rules)
