use Rattle.std.proofs.Common.{◌≡◌, ℕ, List, [], ◌∷◌, ◌++◌, subst, rules}
use Rattle.grant_journal.specs.JournalBytes.{IsBeforeOrAfter, Settled}
use Rattle.sts_core.proofs.Carrying.{stands_still}
use Rattle.sts_core.proofs.recording.store.Goals as goal
use Rattle.wif_base.specs.Disk.{Leaves}

pub returns-in-Err-TooLong-clause-any_moment : goal.returns-in-Err-TooLong-clause-any_moment
returns-in-Err-TooLong-clause-any_moment g c = λ texts settled. stands_still texts _ _ _ settled

pub returns-in-Err-Memory-clause-any_moment : goal.returns-in-Err-Memory-clause-any_moment
returns-in-Err-Memory-clause-any_moment g c = λ texts settled. stands_still texts _ _ _ settled

pub returns-in-Ok-appended-clause-settled : goal.returns-in-Ok-appended-clause-settled
returns-in-Ok-appended-clause-settled g c = λ texts settled stored.
    let same : c.in-Ok.record ≡ c.args.text = search (rules, c.in-Ok.ensures.0) in
    subst (λ (text : List ℕ). Settled (texts ++ text ∷ []) c.append-appended.new.self.len c.append-appended.new.self.told) same
    (c.in-Ok-appended.ensures.stored texts settled)

pub returns-in-Ok-appended-clause-any_moment : goal.returns-in-Ok-appended-clause-any_moment
returns-in-Ok-appended-clause-any_moment g c = λ texts settled.
    let same : c.in-Ok.record ≡ c.args.text = search (rules, c.in-Ok.ensures.0) in
    subst (λ (text : List ℕ). Leaves c.args.journal.now.told c.append-appended.new.self.told (IsBeforeOrAfter texts text)) same
    (c.append-appended.ensures.any_moment texts settled)

pub returns-in-Err-Full-clause-any_moment : goal.returns-in-Err-Full-clause-any_moment
returns-in-Err-Full-clause-any_moment g c = λ texts settled.
    let same : c.in-Ok.record ≡ c.args.text = search (rules, c.in-Ok.ensures.0) in
    subst (λ (text : List ℕ). Leaves c.args.journal.now.told c.append-appended.new.self.told (IsBeforeOrAfter texts text)) same
    (c.append-appended.ensures.any_moment texts settled)

pub returns-in-Err-Fault-clause-any_moment : goal.returns-in-Err-Fault-clause-any_moment
returns-in-Err-Fault-clause-any_moment g c = λ texts settled.
    let same : c.in-Ok.record ≡ c.args.text = search (rules, c.in-Ok.ensures.0) in
    subst (λ (text : List ℕ). Leaves c.args.journal.now.told c.append-appended.new.self.told (IsBeforeOrAfter texts text)) same
    (c.append-appended.ensures.any_moment texts settled)

pub returns-in-Err-Broken-clause-any_moment : goal.returns-in-Err-Broken-clause-any_moment
returns-in-Err-Broken-clause-any_moment g c = λ texts settled.
    let same : c.in-Ok.record ≡ c.args.text = search (rules, c.in-Ok.ensures.0) in
    subst (λ (text : List ℕ). Leaves c.args.journal.now.told c.append-appended.new.self.told (IsBeforeOrAfter texts text)) same
    (c.append-appended.ensures.any_moment texts settled)
