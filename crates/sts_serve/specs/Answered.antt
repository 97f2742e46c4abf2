-- What the answer to one frame wrote and recorded.
use Rattle.std.specs.Prelude.{◌≡◌, ◌≢◌, ◌⊎◌, List, [], ℕ, Option, Result, Ok, Err, ⊤}
use Rattle.std.specs.Io.KnownBytes.{Appends}
use Rattle.wif_base.specs.Output.{IsProperPart}
use Rattle.service_config.specs.declared.config.Config.{Config}
use Rattle.links.specs.declared.entry.Entry.{Entry}
use Rattle.sts_core.specs.State.{Standing, Stands}
use Rattle.sts_serve.specs.Left.{LeavesService}
use Rattle.sts_serve.specs.declared.served.Served.{Served}
use Rattle.sts_serve.specs.declared.served.Served.TheVariants.{WriteFault, Stopped}
use Rattle.sts_core.specs.declared.stop.Stop.TheVariants.{Journal}

-- At `Ok` the reply is written and the journal is the one after it. Else a proper part is written, by a write fault alone, and
-- of a journal that is as before nothing. Where the disk failed it is as before.
abbrev pub Answers : Option (List ℕ) → Option (List ℕ) → List ℕ → List Entry → List Entry → List Entry → Result ⊤ Served → Type 0
Answers old new text before with after (Ok done) = Appends old new text × (after ≡ with)
Answers old new text before with after (Err end) = (part : List ℕ) × IsProperPart part text × Appends old new part
    × (end ≢ WriteFault → part ≡ []) × (((after ≡ before) × (part ≡ [])) ⊎ ((after ≡ with) × (end ≢ Stopped Journal)))

-- the service stands for the journal, or is left as its end says
abbrev pub LeftBy : Config → List Entry → List Entry → Standing → Result ⊤ Served → Type 0
LeftBy config after next sts (Ok done) = Stands sts config after
LeftBy config after next sts (Err end) = LeavesService end config after next sts
