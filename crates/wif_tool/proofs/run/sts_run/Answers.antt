use Rattle.std.proofs.Common.{◌≡◌, inl, inr, ⊎_elim, subst, arith}
use Rattle.service_config.specs.declared.config.Config.{Config}
use Rattle.service_journal.specs.Journals.{IsKept}
use Rattle.wif_tool.specs.Opened.{NoJournal}
use Rattle.wif_tool.proofs.Connected.{served_at_zero, served_whole}
use Rattle.wif_tool.proofs.LineStatus.{lines_complete, lines_too_long}
use Rattle.wif_tool.proofs.NotOpening.{fault_status_is, holds_none, not_read_or, not_zero_fault, opened_or, refused_at_six, unopened_not, unopened_status}
use Rattle.wif_tool.proofs.Outcome.{complete, not_refused, not_stopped, not_zero, nothing_left, same_setup, status_eight, status_six, status_zero, stopped_complete}
use Rattle.wif_tool.proofs.run.sts_run.Goals as goal

pub returns-in-Some-Script-clause-done : goal.returns-in-Some-Script-clause-done
returns-in-Some-Script-clause-done g c = λ script zero.
    ⊎_elim
    (λ stopped. absurd (not_stopped _ (omega (arith, zero)) (omega (arith, zero)) (omega (arith, zero)) stopped.0))
    (λ ran. ⊎_elim
    (λ closed. absurd (unopened_not _ _ _ _ _ _ closed.0 closed.1 (omega (arith, zero)) (omega (arith, zero)) (omega (arith, zero)) (omega (arith, zero))))
    (λ run. (ran.0, ran.1, run.0, run.1, status_zero _ _ _ _ _ _ _ _ _ zero run.2))
    ran.2)
    c.script_status.ensures.outcome

pub returns-in-Some-Script-clause-malformed : goal.returns-in-Some-Script-clause-malformed
returns-in-Some-Script-clause-malformed g c = λ script eight.
    ⊎_elim
    (λ stopped. absurd (not_stopped _ (omega (arith, eight)) (omega (arith, eight)) (omega (arith, eight)) stopped.0))
    (λ ran. ⊎_elim
    (λ closed. absurd (unopened_not _ _ _ _ _ _ closed.0 closed.1 (omega (arith, eight)) (omega (arith, eight)) (omega (arith, eight)) (omega (arith, eight))))
    (λ run. (ran.0, ran.1, run.0, run.1, status_eight _ _ _ _ _ _ _ _ _ eight run.2))
    ran.2)
    c.script_status.ensures.outcome

pub returns-in-Some-Script-clause-malformed_only : goal.returns-in-Some-Script-clause-malformed_only
returns-in-Some-Script-clause-malformed_only g c = λ script bytes frames rest told spells some zero.
    ⊎_elim
    (λ stopped. not_stopped _ (omega (arith, zero)) (omega (arith, zero)) (omega (arith, zero)) stopped.0)
    (λ ran. ⊎_elim
    (λ closed. unopened_not _ _ _ _ _ _ closed.0 closed.1 (omega (arith, zero)) (omega (arith, zero)) (omega (arith, zero)) (omega (arith, zero)))
    (λ run. some (nothing_left _ _ _ _ _ _ bytes frames rest _ told spells (status_zero _ _ _ _ _ _ _ _ _ zero run.2)))
    ran.2)
    c.script_status.ensures.outcome

pub returns-in-Some-Script-clause-complete : goal.returns-in-Some-Script-clause-complete
returns-in-Some-Script-clause-complete g c = λ is_script forms script quiet_config quiet_input quiet_output quiet_disk.
    let given = forms.configured in
    let no_three = λ (three : c.script_status.result ≡ 3). ⊎_elim quiet_config quiet_input (c.script_status.ensures.read_fault three) in
    let no_five = λ (five : c.script_status.result ≡ 5). quiet_disk (c.script_status.ensures.disk_fault five) in
    ⊎_elim
    (λ stopped. stopped_complete _ stopped.0 (λ one. not_refused _ given.bytes _ forms.setup given.told given.configured (c.script_status.ensures.configuration one).0) no_three)
    (λ ran.
    let same = same_setup _ given.bytes _ forms.setup ran.0 given.told given.configured ran.1 in
    ⊎_elim
    (λ closed. inr (opened_or ran.0 _ _ _ _ _ closed.0 forms.held forms.entries forms.tells
    (subst (λ (config : Config). IsKept config forms.entries) same forms.kept) forms.stands closed.1 no_five))
    (λ run. complete _ _ script.frames _ _ script.each script.within _ _ _ _ _ script.whole run.2 no_three
    (λ four. quiet_output (c.script_status.ensures.write_fault four)) no_five)
    ran.2)
    c.script_status.ensures.outcome

pub returns-in-Some-Script-clause-refused : goal.returns-in-Some-Script-clause-refused
returns-in-Some-Script-clause-refused g c = λ script six.
    ⊎_elim
    (λ stopped. absurd (not_stopped _ (omega (arith, six)) (omega (arith, six)) (omega (arith, six)) stopped.0))
    (λ ran. ⊎_elim
    (λ closed. (ran.0, ran.1, refused_at_six _ _ _ _ _ _ closed.0 closed.1 six, closed.2))
    (λ run. absurd (status_six _ _ _ _ _ _ _ _ _ six run.2))
    ran.2)
    c.script_status.ensures.outcome

pub returns-in-Some-Script-clause-refuses : goal.returns-in-Some-Script-clause-refuses
returns-in-Some-Script-clause-refuses g c = λ is_script has quiet_config quiet_input quiet_disk.
    let given = has.configured in
    ⊎_elim
    (λ stopped. inr (inr (⊎_elim
    (λ zero. absurd (not_zero _ stopped.0 zero))
    (λ seven. seven)
    (stopped_complete _ stopped.0 (λ one. not_refused _ given.bytes _ has.setup given.told given.configured (c.script_status.ensures.configuration one).0)
    (λ three. ⊎_elim quiet_config quiet_input (c.script_status.ensures.read_fault three))))))
    (λ ran.
    let same = same_setup _ given.bytes _ has.setup ran.0 given.told given.configured ran.1 in
    ⊎_elim
    (λ closed. ⊎_elim (λ four. inr (inl four))
    (λ more. ⊎_elim (λ five. absurd (quiet_disk (c.script_status.ensures.disk_fault five)))
    (λ rest. ⊎_elim (λ six. inl six) (λ seven. inr (inr seven)) rest) more)
    (unopened_status _ _ _ _ _ _ closed.0 closed.1))
    (λ run. absurd (holds_none ran.0 run.0 _ has.held has.tells run.1 (subst (λ (config : Config). NoJournal config has.held.now.bytes) same has.none)))
    ran.2)
    c.script_status.ensures.outcome

pub returns-in-Some-Init-clause-cel_long_line : goal.returns-in-Some-Init-clause-cel_long_line
returns-in-Some-Init-clause-cel_long_line g c = λ has zero.
    cc (has.cel, c.command_of.ensures, c.in-Some-Init.is, c.in-Some-Init.field-0-is)

pub returns-in-Some-Script-clause-cel_long_line : goal.returns-in-Some-Script-clause-cel_long_line
returns-in-Some-Script-clause-cel_long_line g c = λ has zero.
    cc (has.cel, c.command_of.ensures, c.in-Some-Script.is, c.in-Some-Script.field-0-is)

pub returns-in-Some-Stdio-clause-served : goal.returns-in-Some-Stdio-clause-served
returns-in-Some-Stdio-clause-served g c = λ stdio zero.
    ⊎_elim
    (λ stopped. absurd (not_stopped _ (omega (arith, zero)) (omega (arith, zero)) (omega (arith, zero)) stopped.0))
    (λ ran. ⊎_elim
    (λ closed. absurd (not_zero_fault closed.0 _ closed.1 zero))
    (λ run. (ran.0, ran.1, run.0, run.1, served_at_zero _ _ _ _ _ _ _ _ _ _ _ zero run.2))
    ran.2)
    c.stdio_status.ensures.outcome

pub returns-in-Some-Stdio-clause-stdio_complete : goal.returns-in-Some-Stdio-clause-stdio_complete
returns-in-Some-Stdio-clause-stdio_complete g c = λ stdio forms bytes told within quiet_config quiet_input quiet_output quiet_disk quiet_clock.
    let given = forms.configured in
    let no_three = λ (three : c.stdio_status.result ≡ 3). ⊎_elim quiet_config quiet_input (c.stdio_status.ensures.read_fault three) in
    let no_five = λ (five : c.stdio_status.result ≡ 5). quiet_disk (c.stdio_status.ensures.disk_fault five) in
    ⊎_elim
    (λ stopped. stopped_complete _ stopped.0 (λ one. not_refused _ given.bytes _ forms.setup given.told given.configured (c.stdio_status.ensures.configuration one).0) no_three)
    (λ ran.
    let same = same_setup _ given.bytes _ forms.setup ran.0 given.told given.configured ran.1 in
    ⊎_elim
    (λ closed. inr (not_read_or ran.0 _ _ closed.0 forms.held forms.entries _ forms.tells
    (subst (λ (config : Config). IsKept config forms.entries) same forms.kept) forms.stands closed.2 closed.1 no_five))
    (λ run. served_whole _ _ bytes _ _ _ _ _ within _ _ _ _ told run.2 no_three
    (λ four. quiet_output (c.stdio_status.ensures.write_fault four)) no_five (λ nine. quiet_clock (c.stdio_status.ensures.clock_fault nine)))
    ran.2)
    c.stdio_status.ensures.outcome

pub returns-in-Some-Stdio-clause-stdio_refuses : goal.returns-in-Some-Stdio-clause-stdio_refuses
returns-in-Some-Stdio-clause-stdio_refuses g c = λ stdio has quiet_config quiet_input quiet_disk.
    let given = has.configured in
    ⊎_elim
    (λ stopped. inr (⊎_elim
    (λ zero. absurd (not_zero _ stopped.0 zero))
    (λ seven. seven)
    (stopped_complete _ stopped.0 (λ one. not_refused _ given.bytes _ has.setup given.told given.configured (c.stdio_status.ensures.configuration one).0)
    (λ three. ⊎_elim quiet_config quiet_input (c.stdio_status.ensures.read_fault three)))))
    (λ ran.
    let same = same_setup _ given.bytes _ has.setup ran.0 given.told given.configured ran.1 in
    ⊎_elim
    (λ closed. ⊎_elim (λ five. absurd (quiet_disk (c.stdio_status.ensures.disk_fault five))) (λ rest. rest) (fault_status_is closed.0 _ closed.1))
    (λ run. absurd (holds_none ran.0 run.0 _ has.held has.tells run.1 (subst (λ (config : Config). NoJournal config has.held.now.bytes) same has.none)))
    ran.2)
    c.stdio_status.ensures.outcome

pub returns-in-Some-Stdio-clause-cel_long_line : goal.returns-in-Some-Stdio-clause-cel_long_line
returns-in-Some-Stdio-clause-cel_long_line g c = λ has zero.
    cc (has.cel, c.command_of.ensures, c.in-Some-Stdio.is, c.in-Some-Stdio.field-0-is)

pub returns-in-None-clause-cel_long_line : goal.returns-in-None-clause-cel_long_line
returns-in-None-clause-cel_long_line g c = λ has zero. cc (has.cel, c.command_of.ensures, c.in-None.is)

pub returns-in-Some-Cel-clause-cel_complete : goal.returns-in-Some-Cel-clause-cel_complete
returns-in-Some-Cel-clause-cel_complete g c = λ has quiet_input quiet_output.
    lines_complete _ _ _ has.bytes _ has.lines _ has.told has.are has.within c.cel_status.ensures.outcome
    (λ three. quiet_input (c.cel_status.ensures.read_fault three)) (λ four. quiet_output (c.cel_status.ensures.write_fault four))

pub returns-in-Some-Cel-clause-cel_long_line : goal.returns-in-Some-Cel-clause-cel_long_line
returns-in-Some-Cel-clause-cel_long_line g c = λ has.
    lines_too_long _ _ _ has.bytes _ has.lines has.rest _ has.told has.begins has.long c.cel_status.ensures.outcome
