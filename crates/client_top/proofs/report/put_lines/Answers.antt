use Rattle.std.proofs.Common.{arith}
use Rattle.client_top.proofs.Reporting.{all_told, lines_over}
use Rattle.client_top.proofs.report.put_lines.Goals as goal

pub returns : goal.returns
returns c =
    let over = lines_over c.args.worker c.loop-place.place c.args.moments.now c.args.outcomes.now (omega arith) in
    all_told _ _ _ over c.loop-place.invariant
