use Rattle.entry_texts.proofs.Says.{entry_formed, text_exact}
use Rattle.service_journal.proofs.replay.apply_text.Goals as goal

pub apply-requires-clause-form : goal.apply-requires-clause-form
apply-requires-clause-form c = entry_formed c.in-Ok.entry (text_exact c.args.text.now c.in-Ok.entry c.in-Ok.ensures)
