use Rattle.std.proofs.Common.{arith}
use Rattle.std.proofs.lemmas.Str.Pattern.{split_parts}
use Rattle.access_token.proofs.Words.{words-cut}
use Rattle.access_token.proofs.scopes.cut_at_space.Goals as goal

pub returns-clause-parts : goal.returns-clause-parts
returns-clause-parts c =
    let text = c.args.text.now in
    words-cut text c.split_once.result (split_parts 32 text c.split_once.result c.split_once.ensures.cases (omega arith))
