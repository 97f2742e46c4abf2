use Rattle.command_texts.proofs.ReadCommands.{command_exact}
use Rattle.command_texts.proofs.laws.a_command_that_is_read_is_exact.Goals as goal

pub returns : goal.returns
returns c = command_exact
