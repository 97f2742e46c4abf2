use Rattle.std.proofs.Common.{◌≡◌, ap, ◌∙◌}
use Rattle.std.proofs.lemmas.Result.{IfOk-weaker}
use Rattle.std.specs.String.{string_bytes}
use Rattle.links.specs.State.{Content}
use Rattle.generated_work.specs.Told.{line_text, work_text}
use Rattle.generated_work.proofs.Counting.{told_line}
use Rattle.generated_work.proofs.work.line_after.Goals as goal

pub returns-in-Ok : goal.returns-in-Ok
returns-in-Ok c =
    let entries = c.entry_count-entries.result in
    let is_entries = c.entry_count-entries.ensures.count ∙ ap (λ (content : Content). content.count) c.state.ensures in
    let same = told_line c.run-ran.new.sts c.args.count entries c.in-Ok.counts c.in-Ok.ensures.counts is_entries c.in-Ok.ensures.stands in
    IfOk-weaker c.line_of.result (λ line. string_bytes line ≡ line_text c.in-Ok.counts entries) (λ line. string_bytes line ≡ work_text c.args.count)
    (λ line e. e ∙ same) c.line_of.ensures
