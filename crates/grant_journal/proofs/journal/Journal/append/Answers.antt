use Rattle.std.proofs.Common.{◌≡◌, ◌+◌, ◌++◌, [], ◌∷◌, ap, sym, ◌∙◌, ℕ, length, subst, rules}
use Rattle.grant_journal.specs.JournalBytes.{framed, Settled}
use Rattle.grant_journal.specs.Journals.{JournalView}
use Rattle.grant_journal.proofs.Stages.{unchanged}
use Rattle.grant_journal.proofs.journal.Journal.append.Goals as goal

pub returns-then-self-clause-any_moment : goal.returns-then-self-clause-any_moment
returns-then-self-clause-any_moment g c = λ texts s. unchanged texts c.args.rec.now _ _ s

pub returns-then-length-gt-LIMIT-clause-any_moment : goal.returns-then-length-gt-LIMIT-clause-any_moment
returns-then-length-gt-LIMIT-clause-any_moment g c = λ texts s. unchanged texts c.args.rec.now _ _ s

pub returns-clause-stored : goal.returns-clause-stored
returns-clause-stored g c = λ texts s.
    let here : Settled texts c.self.inside.len (g.D.Disk.told c.self.inside.disk) = subst (λ (j : JournalView). Settled texts j.len j.told) (sym c.self.view_is) s in
    let is : c.as_slice.result.now ≡ framed c.args.rec.now = c.as_slice.ensures.value ∙ c.rec.invariant.0 ∙ ap framed c.rec.view_is in
    let size : length c.as_slice.result.now ≡ c.len.result = search rules in
    subst (λ (n : ℕ). Settled (texts ++ c.args.rec.now ∷ []) (c.self.inside.len + n) (g.D.Disk.told c.write_record.new.disk)) size
    (c.in-Ok.ensures.stored texts c.args.rec.now is here)
