use Rattle.entry_texts.proofs.Says.{entry_formed}
use Rattle.entry_texts.proofs.laws.exact_entries_have_their_form.Goals as goal

pub returns : goal.returns
returns c = entry_formed
