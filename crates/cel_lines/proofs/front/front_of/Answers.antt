use Rattle.std.proofs.Common.{arith}
use Rattle.cel_lines.proofs.Lines.{too_long, without_end}
use Rattle.cel_lines.proofs.front.front_of.Goals as goal

pub returns-else-size-le-LONGEST : goal.returns-else-size-le-LONGEST
returns-else-size-le-LONGEST c = too_long c.args.bytes.now c.in-Some.size (omega arith) c.in-Some.ensures.found

pub returns-else-bytes-le-LONGEST : goal.returns-else-bytes-le-LONGEST
returns-else-bytes-le-LONGEST c = without_end c.args.bytes.now (omega arith) (c.find_feed.ensures.none c.in-None.is)
