use Rattle.std.proofs.Common.{◌≢◌, [], rules}
use Rattle.cel_lines.proofs.Runs.{last_done, last_broken}
use Rattle.cel_lines.proofs.run.answer_last.Goals as goal

pub returns-in-Ok-clause-last : goal.returns-in-Ok-clause-last
returns-in-Ok-clause-last g c =
    let some : c.args.rest.now ≢ [] = search rules in
    last_done c.args.rest.now c.new-answers.result.items c.push_answer.new.answers.items _ _ some c.new-answers.ensures.items c.in_default.ensures c.in-Ok.ensures.written

pub returns-clause-last : goal.returns-clause-last
returns-clause-last g c =
    let some : c.args.rest.now ≢ [] = search rules in
    last_broken c.args.rest.now c.new-answers.result.items c.push_answer.new.answers.items _ _ some c.new-answers.ensures.items c.in_default.ensures c.in-Err-write_out.ensures.written
