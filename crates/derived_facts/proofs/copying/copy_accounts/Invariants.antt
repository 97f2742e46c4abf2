use Rattle.std.proofs.Common.{◌≡◌, take}
use Rattle.derived_facts.proofs.copying.copy_accounts.Given as goal

abbrev pub invariant-loop-account : goal.invariant-loop-account
invariant-loop-account l = l.copy ≡ take l.account-index l.accounts
