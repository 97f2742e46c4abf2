-- A client with what it was given so far.
use Rattle.std.specs.Prelude.{◌≡◌, ◌≤◌, ℕ, List, ◌++◌, length, Option, None, Some, ⊤}
use Rattle.client_link.specs.declared.target.LinkCall.{LinkCall}
use Rattle.client_proto.specs.declared.config.ClientConfig.{ClientConfig}
use Rattle.renewer.specs.Histories.{NoWaste}
use Rattle.renewer.specs.Renewed.{Renewed}
use Rattle.renewer.specs.declared.renewal.Renewal.{Renewal}

-- What contracts see of a client: its link, its file, its margin, its renewals, and the link as it was at first.
pub record Flown (L : Type 0) : Type 0 where
  pub link : L
  pub config : ClientConfig
  pub margin : ℕ
  pub history : List Renewal
  pub first : L

-- the calls since the first are told, and the renewals were given by them
abbrev pub AreToldSince : ClientConfig → Option (List LinkCall) → Option (List LinkCall) → List Renewal → Type 0
AreToldSince config None now history = ⊤
AreToldSince config (Some before) None history = ⊥
AreToldSince config (Some before) (Some now) history = (since : List LinkCall) × (now ≡ before ++ since) × Renewed config since history

-- What holds of each client.
pub record IsSound (config : ClientConfig) (margin : ℕ) (history : List Renewal) (before now : Option (List LinkCall)) : Type 0 where
  pub within : margin ≤ 3600
  pub waste : NoWaste margin history
  pub most : length history ≤ 10_000
  pub told : AreToldSince config before now history
