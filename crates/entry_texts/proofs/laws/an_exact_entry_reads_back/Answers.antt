use Rattle.entry_texts.proofs.Says.{text_utf8, text_back}
use Rattle.entry_texts.proofs.laws.an_exact_entry_reads_back.Goals as goal

pub returns-clause-utf8 : goal.returns-clause-utf8
returns-clause-utf8 c = text_utf8

pub returns-clause-reads_back : goal.returns-clause-reads_back
returns-clause-reads_back c = text_back
