use Rattle.entry_texts.proofs.Says.{text_only, text_exact}
use Rattle.entry_texts.proofs.laws.a_text_says_one_entry.Goals as goal

pub returns-clause-text : goal.returns-clause-text
returns-clause-text c = text_only

pub returns-clause-exact : goal.returns-clause-exact
returns-clause-exact c = text_exact
