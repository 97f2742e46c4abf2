use Rattle.command_texts.proofs.ReadCommands.{command_exact}
use Rattle.sts_core.proofs.administration.obey.Goals as goal

pub enter-requires-clause-exact : goal.enter-requires-clause-exact
enter-requires-clause-exact c = command_exact _ c.in-Ok.command c.requires.utf8 c.in-Ok.ensures.read
