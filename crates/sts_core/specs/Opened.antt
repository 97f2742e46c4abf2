-- What the opening of a service finds on its disk.
use Rattle.std.specs.Prelude.{◌≡◌, ◌⊎◌, Option, Result, Ok, Err, IfSome}
use Rattle.service_config.specs.declared.config.Config.{Config}
use Rattle.service_config.specs.Formed.{IsFormedConfig}
use Rattle.service_journal.specs.Opening.{FindsJournal, IsRefusedAt}
use Rattle.service_journal.specs.declared.opening.OpenFault.{OpenFault}
use Rattle.service_journal.specs.declared.opening.OpenFault.TheVariants.{Fault, Refused, Memory}
use Rattle.wif_base.specs.Disk.{Told, told_synced}
use Rattle.sts_core.specs.declared.opening.Opening.{Opening}

-- The journal that the disk held leaves this state, and the secrets are the configuration's.
pub record FindsService (config : Config) (old new : Option Told) (opening : Opening) : Type 0 where
  pub journal : FindsJournal config old new opening.journal.state.content opening.journal.end.len
  pub admin : opening.admin ≡ config.admin
  pub gate : opening.gate ≡ config.gate
  pub formed : IsFormedConfig config

-- what each answer of an opening says of the disk, which a sync alone has changed
abbrev pub OpensTo : Config → Option Told → Option Told → Result Opening OpenFault → Type 0
OpensTo config old new (Ok opening) = FindsService config old new opening × (new ≡ told_synced old)
OpensTo config old new (Err Fault) = (new ≡ old) ⊎ (new ≡ told_synced old)
OpensTo config old new (Err (Refused at rule)) = IfSome old (λ told. IsRefusedAt config told.now.bytes at rule) × (new ≡ told_synced old)
OpensTo config old new (Err Memory) = new ≡ told_synced old
