use Rattle.command_texts.proofs.BackCommands.{command_back}
use Rattle.command_texts.proofs.WrittenCommands.{command_clean, command_deep}
use Rattle.command_texts.proofs.WrittenTexts.{command_utf8}
use Rattle.command_texts.proofs.laws.an_exact_command_reads_back.Goals as goal

pub returns-clause-reads_back : goal.returns-clause-reads_back
returns-clause-reads_back c = command_back

pub returns-clause-clean : goal.returns-clause-clean
returns-clause-clean c = command_clean

pub returns-clause-utf8 : goal.returns-clause-utf8
returns-clause-utf8 c = command_utf8

pub returns-clause-shallow : goal.returns-clause-shallow
returns-clause-shallow c = λ command is. command_deep command
