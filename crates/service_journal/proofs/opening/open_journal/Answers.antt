use Rattle.std.proofs.Common.{sym, ◌∙◌, subst}
use Rattle.service_journal.specs.Opening.{Opens}
use Rattle.service_journal.proofs.Reading.{no_fault, opens}
use Rattle.service_journal.proofs.opening.open_journal.Goals as goal

pub returns-in-Ok-clause-opens : goal.returns-in-Ok-clause-opens
returns-in-Ok-clause-opens g c = λ config start.
    subst (λ r. Opens config (g.D.Disk.told c.args.disk.now) (g.D.Disk.told c.read_file.new.disk) r) (sym c.opened.ensures)
    (opens config _ c.in-Ok.file _ _ c.in-Ok.ensures.file c.in-Ok.ensures.told (λ file read. c.replay-replayed.ensures config file start read))

pub returns-in-Ok-clause-cause : goal.returns-in-Ok-clause-cause
returns-in-Ok-clause-cause g c = λ is. absurd (no_fault _ (sym c.opened.ensures ∙ is))
