-- The forms that entries have.
use Rattle.std.specs.Prelude.{◌≡◌, ◌≤◌, true, length, IfSome}
use Rattle.std.specs.List.{list_all}
use Rattle.access_token.specs.Forms.{are_words}
use Rattle.boundary.specs.Exact.{IsExactBoundary}
use Rattle.iam_names.specs.Forms.{is_account}
use Rattle.service_view.specs.Commands.{IsCommand}
use Rattle.links.specs.declared.entry.Entry.{Entry}
use Rattle.links.specs.declared.entry.Entry.TheVariants.{Put, Federated, Narrow, Impersonate, Delegate}
use Rattle.links.specs.declared.entry.Exchange.{Exchange}
use Rattle.links.specs.declared.entry.Narrowing.{Narrowing}
use Rattle.links.specs.declared.entry.Impersonation.{Impersonation}
use Rattle.links.specs.declared.entry.Delegation.{Delegation}

-- its moment is one, and it has 1 to 16 scope words
pub record IsExchange (x : Exchange) : Type 0 where
  pub moment : x.at ≤ 200_000_000_000
  pub words : are_words x.scope ≡ true

-- the same, and its boundary has its form, if there is one
pub record IsNarrowing (x : Narrowing) : Type 0 where
  pub moment : x.at ≤ 200_000_000_000
  pub words : are_words x.scope ≡ true
  pub boundary : IfSome x.boundary IsExactBoundary

-- its moment is one, it has 1 to 16 scope words and 1 to 5 service accounts, and it lasts 1 to 3,600 seconds
pub record IsImpersonation (x : Impersonation) : Type 0 where
  pub moment : x.at ≤ 200_000_000_000
  pub words : are_words x.scope ≡ true
  pub some : 1 ≤ length x.accounts
  pub few : length x.accounts ≤ 5
  pub accounts : list_all is_account x.accounts ≡ true
  pub lasts : 1 ≤ x.lifetime
  pub short : x.lifetime ≤ 3600

-- its moment is one, and it has 1 to 16 scope words
pub record IsDelegation (x : Delegation) : Type 0 where
  pub moment : x.at ≤ 200_000_000_000
  pub words : are_words x.scope ≡ true

-- a command, an exchange, a narrowing, an impersonation or a delegation, of its form
abbrev pub IsEntry : Entry → Type 0
IsEntry (Put command) = IsCommand command
IsEntry (Federated x) = IsExchange x
IsEntry (Narrow x) = IsNarrowing x
IsEntry (Impersonate x) = IsImpersonation x
IsEntry (Delegate x) = IsDelegation x
