use Rattle.std.proofs.Common.{◌∙◌, ap, length, ◌-◌, [], ◌∷◌}
use Rattle.wif_base.specs.Disk.{told_written, told_synced}
use Rattle.grant_journal.proofs.Stages.{write_failed, written, gate_failed, ends, stored}
use Rattle.grant_journal.proofs.journal.write_record.Goals as goal

pub returns-in_err-write_at-clause-any_moment : goal.returns-in_err-write_at-clause-any_moment
returns-in_err-write_at-clause-any_moment g c = λ texts text is s. write_failed texts text c.args.len _ _ _ s c.in_err-write_at.ensures.failed

pub returns-in_err-sync-clause-any_moment : goal.returns-in_err-sync-clause-any_moment
returns-in_err-sync-clause-any_moment g c = λ texts text is s.
    let first = c.in_ok-write_at.ensures.written ∙ ap (λ b. told_written (g.D.Disk.told c.args.disk.now) c.args.len b) is in
    written texts text c.args.len _ _ s (c.in_err-sync.ensures.failed ∙ first)

pub returns-in_err-write_at-2-clause-any_moment : goal.returns-in_err-write_at-2-clause-any_moment
returns-in_err-write_at-2-clause-any_moment g c = λ texts text is s.
    let first = c.in_ok-write_at.ensures.written ∙ ap (λ b. told_written (g.D.Disk.told c.args.disk.now) c.args.len b) is in
    gate_failed texts text c.args.len _ _ _ s (c.in_ok-sync.ensures.synced ∙ ap told_synced first) c.in_err-write_at-2.ensures.failed

pub returns-clause-stored : goal.returns-clause-stored
returns-clause-stored g c = λ texts text is s.
    let first = c.in_ok-write_at.ensures.written ∙ ap (λ b. told_written (g.D.Disk.told c.args.disk.now) c.args.len b) is in
    let put = c.in_ok-sync.ensures.synced ∙ ap told_synced first in
    let second = c.in_ok-write_at-2.ensures.written ∙ ap (λ t. told_written t (c.args.len - 1) (1 ∷ [])) put in
    stored texts text c.args.len _ _ _ _ _ (ap length is) s second c.sync-2.ensures.synced

pub returns-clause-any_moment : goal.returns-clause-any_moment
returns-clause-any_moment g c = λ texts text is s.
    let first = c.in_ok-write_at.ensures.written ∙ ap (λ b. told_written (g.D.Disk.told c.args.disk.now) c.args.len b) is in
    let put = c.in_ok-sync.ensures.synced ∙ ap told_synced first in
    let second = c.in_ok-write_at-2.ensures.written ∙ ap (λ t. told_written t (c.args.len - 1) (1 ∷ [])) put in
    ends texts text c.args.len _ _ _ _ s second c.sync-2.ensures.synced c.sync-2.ensures.failed
