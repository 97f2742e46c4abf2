use Rattle.sts_admin.proofs.FormedCommands.{command_formed}
use Rattle.sts_admin.proofs.laws.read_commands_have_their_form.Goals as goal

pub returns : goal.returns
returns c = command_formed
