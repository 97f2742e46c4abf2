use Rattle.std.proofs.Common.{arith}
use Rattle.access_token.proofs.Words.{words-few}
use Rattle.access_token.proofs.scopes.read_words.Goals as goal

pub returns-then-len-le-MAX_WORDS : goal.returns-then-len-le-MAX_WORDS
returns-then-len-le-MAX_WORDS c = words-few c.args.text.now c.in_ok-words.words c.in_ok-words.ensures (omega (arith, c.len.ensures))
