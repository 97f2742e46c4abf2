use Rattle.std.proofs.Common.{◌≡◌, inl, inr, ⊎_elim, subst, arith}
use Rattle.service_config.specs.declared.config.Config.{Config}
use Rattle.service_journal.specs.Journals.{IsKept}
use Rattle.wif_tool.specs.Command.{texts}
use Rattle.wif_tool.specs.Listening.{Says, number_words}
use Rattle.wif_tool.specs.Opened.{NoJournal}
use Rattle.wif_tool.proofs.Listened.{counted, each_at_zero, each_served, same_count}
use Rattle.wif_tool.proofs.NotOpening.{fault_status_is, holds_none, not_read_or, not_zero_fault}
use Rattle.wif_tool.proofs.Outcome.{not_refused, not_stopped, not_zero, same_setup, stopped_complete}
use Rattle.wif_tool.proofs.listen.sts_listen.Goals as goal

pub returns-in-Ok-Some-clause-served : goal.returns-in-Ok-Some-clause-served
returns-in-Ok-Some-clause-served g c = λ asked asks zero.
    let found = subst (λ o. Says (number_words (texts c.args.words.now)) o) c.in-Ok-Some.field-0-is c.in-Ok-Some.ensures in
    let same = same_count (texts c.args.words.now) c.in-Ok-Some.asked asked found asks in
    ⊎_elim
    (λ stopped. absurd (not_stopped _ (omega (arith, zero)) (omega (arith, zero)) (omega (arith, zero)) stopped.0))
    (λ ran. ⊎_elim
    (λ closed. absurd (not_zero_fault closed.0 _ closed.1 zero))
    (λ run. (ran.0, ran.1, run.0, run.1, each_at_zero _ _ _ _ _ _ _ _ _ _ _ _ _ zero (counted _ _ _ _ _ _ _ _ _ _ _ _ _ _ same run.2)))
    ran.2)
    c.listen_status.ensures.outcome

pub returns-in-Ok-Some-clause-listen : goal.returns-in-Ok-Some-clause-listen
returns-in-Ok-Some-clause-listen g c = λ asked asks.
    let found = subst (λ o. Says (number_words (texts c.args.words.now)) o) c.in-Ok-Some.field-0-is c.in-Ok-Some.ensures in
    let same = same_count (texts c.args.words.now) c.in-Ok-Some.asked asked found asks in
    ⊎_elim
    (λ stopped. inl stopped)
    (λ ran. inr (
      ran.0,
      ran.1,
      ⊎_elim (λ closed. inl closed)
          (λ run. inr (run.0, run.1, counted _ _ _ _ _ _ _ _ _ _ _ _ _ _ same run.2))
          ran.2,
    ))
    c.listen_status.ensures.outcome

pub returns-in-Ok-Some-clause-complete : goal.returns-in-Ok-Some-clause-complete
returns-in-Ok-Some-clause-complete g c = λ asked asks forms quiet_config quiet_ends quiet_disk.
    let given = forms.configured in
    let no_three = λ (three : c.listen_status.result ≡ 3). ⊎_elim quiet_config quiet_ends (c.listen_status.ensures.read_fault three) in
    let no_five = λ (five : c.listen_status.result ≡ 5). quiet_disk (c.listen_status.ensures.disk_fault five) in
    ⊎_elim
    (λ stopped. stopped_complete _ stopped.0 (λ one. not_refused _ given.bytes _ forms.setup given.told given.configured (c.listen_status.ensures.configuration one).0) no_three)
    (λ ran.
    let same = same_setup _ given.bytes _ forms.setup ran.0 given.told given.configured ran.1 in
    ⊎_elim
    (λ closed. inr (not_read_or ran.0 _ _ closed.0 forms.held forms.entries _ forms.tells
    (subst (λ (config : Config). IsKept config forms.entries) same forms.kept) forms.stands closed.2 closed.1 no_five))
    (λ run. each_served _ _ _ _ _ _ _ _ _ _ _ _ _ run.2 no_three no_five)
    ran.2)
    c.listen_status.ensures.outcome

pub returns-in-Ok-Some-clause-refuses : goal.returns-in-Ok-Some-clause-refuses
returns-in-Ok-Some-clause-refuses g c = λ asked asks has quiet_config quiet_ends quiet_disk.
    let given = has.configured in
    ⊎_elim
    (λ stopped. inr (⊎_elim
    (λ zero. absurd (not_zero _ stopped.0 zero))
    (λ seven. seven)
    (stopped_complete _ stopped.0 (λ one. not_refused _ given.bytes _ has.setup given.told given.configured (c.listen_status.ensures.configuration one).0)
    (λ three. ⊎_elim quiet_config quiet_ends (c.listen_status.ensures.read_fault three)))))
    (λ ran.
    let same = same_setup _ given.bytes _ has.setup ran.0 given.told given.configured ran.1 in
    ⊎_elim
    (λ closed. ⊎_elim (λ five. absurd (quiet_disk (c.listen_status.ensures.disk_fault five))) (λ rest. rest) (fault_status_is closed.0 _ closed.1))
    (λ run. absurd (holds_none ran.0 run.0 _ has.held has.tells run.1 (subst (λ (config : Config). NoJournal config has.held.now.bytes) same has.none)))
    ran.2)
    c.listen_status.ensures.outcome

pub returns-in-Ok-None-clause-complete : goal.returns-in-Ok-None-clause-complete
returns-in-Ok-None-clause-complete g c = λ asked asks.
    absurd (subst (λ o. Says (number_words (texts c.args.words.now)) o) c.in-Ok-None.field-0-is c.in-Ok-None.ensures asked asks)

pub returns-in-Ok-None-clause-refuses : goal.returns-in-Ok-None-clause-refuses
returns-in-Ok-None-clause-refuses g c = λ asked asks.
    absurd (subst (λ o. Says (number_words (texts c.args.words.now)) o) c.in-Ok-None.field-0-is c.in-Ok-None.ensures asked asks)

pub returns-in-Ok-None-clause-listen : goal.returns-in-Ok-None-clause-listen
returns-in-Ok-None-clause-listen g c = λ asked asks.
    absurd (subst (λ o. Says (number_words (texts c.args.words.now)) o) c.in-Ok-None.field-0-is c.in-Ok-None.ensures asked asks)

pub returns-in-Ok-None-clause-words : goal.returns-in-Ok-None-clause-words
returns-in-Ok-None-clause-words g c = λ asked asks.
    absurd (subst (λ o. Says (number_words (texts c.args.words.now)) o) c.in-Ok-None.field-0-is c.in-Ok-None.ensures asked asks)
