use Rattle.std.proofs.Common.{Err, ap, ◌∙◌}
use Rattle.generated_work.proofs.Beginning.{none_refused, only_empty}
use Rattle.generated_work.proofs.setting.start_service.Goals as goal

pub unreachable-requires : goal.unreachable-requires
unreachable-requires c =
    none_refused c.args.config.now _ c.in-Err-Refused.field-0-0 c.in-Err-Refused.field-0-1
    c.a_file_that_is_refused_stands_for_no_journal.ensures c.journals_go_on_with_what_fits.ensures.begins c.in_ok-disk.ensures.told
    (c.open.ensures.refused c.in-Err-Refused.field-0-0 c.in-Err-Refused.field-0-1 (c.in-Err-Refused.is ∙ ap Err c.in-Err-Refused.field-0-is))

pub returns-in-Ok : goal.returns-in-Ok
returns-in-Ok c =
    let found = c.in-Ok.ensures.stands in
    only_empty c.in-Ok.sts c.args.config.now found.0 _ c.a_file_stands_for_one_journal.ensures c.in_ok-disk.ensures.told found.1 found.2
