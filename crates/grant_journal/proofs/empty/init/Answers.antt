use Rattle.std.proofs.Common.{◌∙◌, ap, refl, subst, ◌∷◌, []}
use Rattle.wif_base.specs.Disk.{told_written, told_synced, FailsWrite}
use Rattle.grant_journal.proofs.Emptying.{empty_failed, empty_written, empty_synced}
use Rattle.grant_journal.proofs.empty.init.Goals as goal

pub returns-in_err-write_at-clause-any_moment : goal.returns-in_err-write_at-clause-any_moment
returns-in_err-write_at-clause-any_moment g c = λ each.
    empty_failed (87 ∷ 73 ∷ 70 ∷ 74 ∷ 48 ∷ 48 ∷ 48 ∷ 49 ∷ 0 ∷ []) refl _ _ each
    (subst (λ t. FailsWrite t 0 9 (g.D.Disk.told c.write_at.new.self)) c.len.ensures.told c.in_err-write_at.ensures.failed)

pub returns-in_err-sync-clause-any_moment : goal.returns-in_err-sync-clause-any_moment
returns-in_err-sync-clause-any_moment g c = λ each.
    let piece = 87 ∷ 73 ∷ 70 ∷ 74 ∷ 48 ∷ 48 ∷ 48 ∷ 49 ∷ 0 ∷ [] in
    empty_written piece refl _ _ each (c.in_err-sync.ensures.failed ∙ c.in_ok-write_at.ensures.written ∙ ap (λ t. told_written t 0 piece) c.len.ensures.told)

pub returns-clause-any_moment : goal.returns-clause-any_moment
returns-clause-any_moment g c = λ each.
    let piece = 87 ∷ 73 ∷ 70 ∷ 74 ∷ 48 ∷ 48 ∷ 48 ∷ 49 ∷ 0 ∷ [] in
    let put = c.in_ok-write_at.ensures.written ∙ ap (λ t. told_written t 0 piece) c.len.ensures.told in
    empty_synced piece refl _ _ each (c.in_ok-sync.ensures.synced ∙ ap told_synced put)
