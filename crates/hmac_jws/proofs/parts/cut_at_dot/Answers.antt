use Rattle.std.proofs.Common.{arith}
use Rattle.std.proofs.lemmas.Str.Pattern.{split_parts}
use Rattle.hmac_jws.specs.Compact.{dot}
use Rattle.hmac_jws.proofs.Splitting.{parts-cut}
use Rattle.hmac_jws.proofs.parts.cut_at_dot.Goals as goal

pub returns : goal.returns
returns c =
    let text = c.args.text.now in
    parts-cut text c.split_once.result (split_parts dot text c.split_once.result c.split_once.ensures.cases (omega arith))
