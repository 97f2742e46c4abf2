use Rattle.std.proofs.Common.{sym, ◌∙◌, arith}
use Rattle.client_proto.proofs.NumberLemmas.{up_to-sound}
use Rattle.client_top.proofs.words.run_from.Goals as goal

pub overflow_cast-result : goal.overflow_cast-result
overflow_cast-result c =
    let within = (up_to-sound 64 c.args.workers.now c.in-Some.workers (sym c.in_ok-workers.ensures ∙ c.in-Some.is)).0 in
    omega (arith, within)

pub returns-clause-range : goal.returns-clause-range
returns-clause-range c =
    let workers = (up_to-sound 64 c.args.workers.now c.in-Some.workers (sym c.in_ok-workers.ensures ∙ c.in-Some.is)).0 in
    let margin = (up_to-sound 3600 c.args.margin.now c.in-Some-margin.margin (sym c.in_ok-margin.ensures ∙ c.in-Some-margin.is)).0 in
    (omega arith, workers, margin)
