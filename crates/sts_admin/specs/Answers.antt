-- What a reader of a command's parts answers.
use Rattle.std.specs.Prelude.{◌≡◌, ◌⊎◌, Result, Err}
use Rattle.sts_admin.specs.declared.command.CommandFault.{CommandFault}
use Rattle.sts_admin.specs.declared.command.CommandFault.TheVariants.{Memory}

-- what there is, or want of memory
abbrev pub Gives : {X : Type 0} → Result X CommandFault → Result X CommandFault → Type 0
Gives result there = (result ≡ there) ⊎ (result ≡ Err Memory)
