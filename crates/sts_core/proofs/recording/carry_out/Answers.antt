use Rattle.std.proofs.Common.{◌≡◌, ℕ, List, Bool, true, ap, sym, subst, rules, ◌∙◌}
use Rattle.std.specs.Prelude.{Ok, Err}
use Rattle.grant_journal.specs.JournalBytes.{Settled}
use Rattle.sts_core.proofs.Carrying.{Either, stands_still, stands_same, stopped_moments, stored_texts}
use Rattle.sts_core.proofs.recording.carry_out.Goals as goal
use Rattle.sts_core.specs.Proposals.{IsReady, fits}
use Rattle.sts_core.specs.declared.stop.Stop.{Stop}
use Rattle.wif_base.specs.Disk.{Leaves}

pub returns-in-Refused-clause-any_moment : goal.returns-in-Refused-clause-any_moment
returns-in-Refused-clause-any_moment g c = λ texts settled. stands_still texts _ _ _ settled

pub returns-in_err-journal_full-in-Ok-false-clause-any_moment : goal.returns-in_err-journal_full-in-Ok-false-clause-any_moment
returns-in_err-journal_full-in-Ok-false-clause-any_moment g c = λ texts settled.
    stands_same texts _ c.args.journal.now c.store-stored.new.journal (search rules) settled

pub returns-in_ok-journal_full-in-Ok-false-clause-any_moment : goal.returns-in_ok-journal_full-in-Ok-false-clause-any_moment
returns-in_ok-journal_full-in-Ok-false-clause-any_moment g c = λ texts settled.
    stands_same texts _ c.args.journal.now c.store-stored.new.journal (search rules) settled

pub returns-in-Ok-true-clause-settled : goal.returns-in-Ok-true-clause-settled
returns-in-Ok-true-clause-settled g c = λ texts settled.
    let can = subst (IsReady c.args.state.now) c.in-Record.is c.requires.ready in
    let fit : fits c.args.journal.now.len c.in-Record.text ≡ true = sym c.in-Ok-true.ensures.fits ∙ c.in-Ok-true.field-0-test in
    let same = stored_texts c.args.state.now c.args.journal.now.len c.args.code.now texts c.args.proposal c.in-Record.prepared c.in-Record.text c.in-Record.reply
    c.in-Record.is can fit in
    subst (λ (texts' : List (List ℕ)). Settled texts' c.store-stored.new.journal.len c.store-stored.new.journal.told) (sym same)
    (c.in-Ok-true.ensures.settled texts settled (ap (λ (b : Bool). Ok b) c.in-Ok-true.field-0-test))

pub returns-in-Ok-true-clause-any_moment : goal.returns-in-Ok-true-clause-any_moment
returns-in-Ok-true-clause-any_moment g c = λ texts settled.
    let can = subst (IsReady c.args.state.now) c.in-Record.is c.requires.ready in
    let fit : fits c.args.journal.now.len c.in-Record.text ≡ true = sym c.in-Ok-true.ensures.fits ∙ c.in-Ok-true.field-0-test in
    let same = stored_texts c.args.state.now c.args.journal.now.len c.args.code.now texts c.args.proposal c.in-Record.prepared c.in-Record.text c.in-Record.reply
    c.in-Record.is can fit in
    subst (λ (texts' : List (List ℕ)). Leaves c.args.journal.now.told c.store-stored.new.journal.told (Either texts texts')) (sym same)
    (c.store-stored.ensures.any_moment texts settled)

pub returns-in-Err-clause-any_moment : goal.returns-in-Err-clause-any_moment
returns-in-Err-clause-any_moment g c = λ texts settled.
    let can = subst (IsReady c.args.state.now) c.in-Record.is c.requires.ready in
    stopped_moments c.in-Err.stop texts _ c.in-Record.text c.args.journal.now c.store-stored.new.journal c.in-Err.ensures.stays settled
    (λ is. stored_texts c.args.state.now c.args.journal.now.len c.args.code.now texts c.args.proposal c.in-Record.prepared c.in-Record.text c.in-Record.reply
    c.in-Record.is can (c.in-Err.ensures.tried (ap (λ (stop : Stop). Err stop) is)))
    (c.store-stored.ensures.any_moment texts settled)
