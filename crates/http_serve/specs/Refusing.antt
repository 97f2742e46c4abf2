-- What the reply to a refusal wrote.
use Rattle.std.specs.Prelude.{ℕ, List, Option}
use Rattle.std.specs.Io.KnownBytes.{Appends, Keeps}
use Rattle.wif_base.specs.Output.{IsProperPart}
use Rattle.sts_core.specs.declared.stop.Stop.TheVariants.{Memory, Journal, Broken}
use Rattle.sts_serve.specs.declared.served.Served.{Served}
use Rattle.sts_serve.specs.declared.served.Served.TheVariants.{Done, ReadFault, WriteFault, ClockFault, Malformed, InputLimit, Stopped}

-- the text is written; at a write fault a proper part of it is, and at want of memory nothing
abbrev pub WritesLast : Option (List ℕ) → Option (List ℕ) → List ℕ → Served → Type 0
WritesLast old new text Done = Appends old new text
WritesLast old new text WriteFault = (part : List ℕ) × IsProperPart part text × Appends old new part
WritesLast old new text (Stopped Memory) = Keeps old new
WritesLast old new text (Stopped Journal) = ⊥
WritesLast old new text (Stopped Broken) = ⊥
WritesLast old new text ReadFault = ⊥
WritesLast old new text ClockFault = ⊥
WritesLast old new text (Malformed offset) = ⊥
WritesLast old new text InputLimit = ⊥
