use Rattle.std.proofs.Common.{inl, inr, ⊎_elim, subst}
use Rattle.wif_tool.specs.Command.{texts}
use Rattle.wif_tool.specs.Work.{SaysWork, work_word}
use Rattle.wif_tool.proofs.Worked.{line_of, same_work}
use Rattle.wif_tool.proofs.work.work_status.Goals as goal

pub returns-in-Ok-Some-clause-work : goal.returns-in-Ok-Some-clause-work
returns-in-Ok-Some-clause-work g c = λ count asks.
    let found = subst (λ o. SaysWork (work_word (texts c.args.words.now)) o) c.in-Ok-Some.field-0-is c.in-Ok-Some.ensures in
    line_of _ count _ _ _ (same_work (texts c.args.words.now) c.in-Ok-Some.count count found asks)
    (⊎_elim
    (λ zero. inl (zero, c.tell_work.ensures.done (c.told_status.ensures.done zero)))
    (λ more. ⊎_elim
    (λ four. inr (inl (four, c.tell_work.ensures.write_fault (c.told_status.ensures.write_fault four))))
    (λ seven. inr (inr (seven, c.tell_work.ensures.memory (c.told_status.ensures.memory seven))))
    more)
    c.told_status.ensures.no_other)
