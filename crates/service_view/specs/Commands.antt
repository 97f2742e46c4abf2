-- The forms that commands have.
use Rattle.std.specs.Prelude.{⊤}
use Rattle.pools.specs.Providers.{IsFormed}
use Rattle.service_view.specs.declared.command.Command.{Command}
use Rattle.service_view.specs.declared.command.Command.TheVariants.{Pool, Provider, Account, Role, Scope, Policy}

-- a provider is of its form, and of the others nothing is asked
abbrev pub IsCommand : Command → Type 0
IsCommand (Provider provider) = IsFormed provider
IsCommand (Pool pool disabled) = ⊤
IsCommand (Account account disabled) = ⊤
IsCommand (Role role permissions) = ⊤
IsCommand (Scope word permissions) = ⊤
IsCommand (Policy resource bindings) = ⊤
