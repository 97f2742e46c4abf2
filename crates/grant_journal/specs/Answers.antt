-- Which answer an append gives, and which one the making of a record.
use Rattle.std.specs.Prelude.{◌≡◌, ⊤, List, length, ℕ, ◌+◌, ◌<◌, ◌≤◌, Bool, true, false, Result, Ok, Err}
use Rattle.wif_base.specs.Causes.{Rose}
use Rattle.grant_journal.specs.declared.journal.AppendFault.{AppendFault}
use Rattle.grant_journal.specs.declared.journal.AppendFault.TheVariants.{Fault, Full, Broken}
use Rattle.grant_journal.specs.declared.record.RecordFault.{RecordFault}
use Rattle.grant_journal.specs.declared.record.RecordFault.TheVariants.{TooLong, Memory}

-- of a journal of len bytes, at a text of so many bytes, where the disk's count goes from before to now
abbrev pub Answers : Bool → ℕ → ℕ → ℕ → ℕ → Result (Unit {0}) AppendFault → Type 0
Answers broken len size before now (Ok x) = (broken ≡ false) × (len + (5 + size) ≤ 67108864)
Answers broken len size before now (Err Fault) = (broken ≡ false) × (len + (5 + size) ≤ 67108864) × Rose before now
Answers broken len size before now (Err (Full n)) = (broken ≡ false) × (67108864 < len + (5 + size)) × (n ≡ len + (5 + size))
Answers broken len size before now (Err Broken) = broken ≡ true

-- it made no call on the disk
abbrev pub Refuses : Result (Unit {0}) AppendFault → Type 0
Refuses (Ok x) = ⊥
Refuses (Err Fault) = ⊥
Refuses (Err (Full n)) = ⊤
Refuses (Err Broken) = ⊤

-- after a fault the journal is broken; after another answer it is as before
abbrev pub Breaks : Result (Unit {0}) AppendFault → Bool → Bool → Type 0
Breaks (Ok x) before now = now ≡ before
Breaks (Err Fault) before now = now ≡ true
Breaks (Err (Full n)) before now = now ≡ before
Breaks (Err Broken) before now = now ≡ before

-- the record of a text, or why there is none
abbrev pub MakesRecord : List ℕ → Result (List ℕ) RecordFault → Type 0
MakesRecord text (Ok rec) = (rec ≡ text) × (length text ≤ 262144)
MakesRecord text (Err (TooLong n)) = (262144 < length text) × (n ≡ length text)
MakesRecord text (Err Memory) = ⊤
