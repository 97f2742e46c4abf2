-- Runs one after another over the journal on a disk, with a crash behind each.
use Rattle.std.specs.Prelude.{◌≡◌, ⊤, ℕ, List, [], ◌∷◌, ◌++◌, Option, Some}
use Rattle.std.specs.List.{AllByRecursion}
use Rattle.wif_base.specs.Disk.{MayLeave, Told}
use Rattle.service_config.specs.declared.config.Config.{Config}
use Rattle.links.specs.declared.entry.Entry.{Entry}
use Rattle.service_journal.specs.Journals.{IsKept, StandsForEntries}
use Rattle.sts_core.specs.State.{Standing}
use Rattle.sts_serve.specs.Served.{ScriptRun}
use Rattle.sts_serve.specs.declared.served.Served.{Served}

-- What a crash may leave after a run from the journal `before` stands for the journal `after`, which a disk may hold.
pub record LeadsTo (config : Config) (before after : List Entry) : Type 0 where
  pub old : Standing
  pub new : Standing
  pub left : Option (List ℕ)
  pub left' : Option (List ℕ)
  pub taken : Option (List ℕ)
  pub taken' : Option (List ℕ)
  pub end : Served
  pub run : ScriptRun config before old new left left' taken taken' end
  pub told : Told
  pub tells : new.journal.told ≡ Some told
  pub image : List ℕ
  pub crash : MayLeave told.now image
  pub stands : StandsForEntries after image
  pub kept : IsKept config after

-- the journals from which the runs after the first began, each where the one before led
abbrev pub AreRuns : Config → List Entry → List (List Entry) → Type 0
AreRuns config before [] = ⊤
AreRuns config before (after ∷ later) = LeadsTo config before after × AreRuns config after later

-- the later journal has the entries of the earlier one at its front
abbrev pub GoesOn : List Entry → List Entry → Type 0
GoesOn earlier later = (more : List Entry) × (later ≡ earlier ++ more)

-- each of the journals goes on from each one before it
abbrev pub EachGoesOn : List Entry → List (List Entry) → Type 0
EachGoesOn first [] = ⊤
EachGoesOn first (next ∷ later) = AllByRecursion (GoesOn first) (next ∷ later) × EachGoesOn next later
