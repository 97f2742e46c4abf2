-- Entries that their texts give back whole.
use Rattle.std.specs.Prelude.{◌≡◌, ◌<◌, ◌^◌, ⊤, true}
use Rattle.std.specs.Str.{IsUtf8}
use Rattle.iam_names.specs.Audience.{is_audience}
use Rattle.command_texts.specs.Exact.{IsExactCommand}
use Rattle.links.specs.Entries.{IsExchange, IsNarrowing, IsImpersonation, IsDelegation}
use Rattle.links.specs.declared.entry.Entry.{Entry}
use Rattle.links.specs.declared.entry.Entry.TheVariants.{Put, Federated, Narrow, Impersonate, Delegate}
use Rattle.links.specs.declared.entry.Exchange.{Exchange}
use Rattle.links.specs.declared.entry.Narrowing.{Narrowing}
use Rattle.links.specs.declared.entry.Impersonation.{Impersonation}
use Rattle.links.specs.declared.entry.Delegation.{Delegation}

-- an exchange of its form, whose provider's name has its form and whose token is UTF-8
pub record IsExactExchange (x : Exchange) : Type 0 where
  pub form : IsExchange x
  pub provider : is_audience x.provider ≡ true
  pub token : IsUtf8 x.token

-- a narrowing of its form, the number of its parent being below 2^32
pub record IsExactNarrowing (x : Narrowing) : Type 0 where
  pub form : IsNarrowing x
  pub parent : x.parent < 2 ^ 32

-- an impersonation of its form, the number of its parent being below 2^32
pub record IsExactImpersonation (x : Impersonation) : Type 0 where
  pub form : IsImpersonation x
  pub parent : x.parent < 2 ^ 32

-- a delegation of its form, the numbers of its subject and its actor being below 2^32
pub record IsExactDelegation (x : Delegation) : Type 0 where
  pub form : IsDelegation x
  pub subject : x.subject < 2 ^ 32
  pub actor : x.actor < 2 ^ 32

-- an exact command, or a link's entry that is exact
abbrev pub IsExactEntry : Entry → Type 0
IsExactEntry (Put command) = IsExactCommand command
IsExactEntry (Federated x) = IsExactExchange x
IsExactEntry (Narrow x) = IsExactNarrowing x
IsExactEntry (Impersonate x) = IsExactImpersonation x
IsExactEntry (Delegate x) = IsExactDelegation x

-- an entry that records a link: any but a command
abbrev pub IsLink : Entry → Type 0
IsLink (Put command) = ⊥
IsLink (Federated x) = ⊤
IsLink (Narrow x) = ⊤
IsLink (Impersonate x) = ⊤
IsLink (Delegate x) = ⊤
