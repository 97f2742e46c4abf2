-- What init leaves.
use Rattle.std.specs.Prelude.{◌≡◌, ◌≢◌, ℕ, List, [], length, Option, Result, Ok, Err, IfSome}
use Rattle.wif_base.specs.Causes.{Rose}
use Rattle.wif_base.specs.Disk.{Told}
use Rattle.grant_journal.specs.JournalBytes.{StandsFor, Settled}
use Rattle.grant_journal.specs.declared.empty.InitFault.{InitFault}
use Rattle.grant_journal.specs.declared.empty.InitFault.TheVariants.{Fault, NotEmpty}

-- it stands for no texts, or for no list at all
abbrev pub IsEmptyOrNone : List ℕ → Type 0
IsEmptyOrNone image = (texts : List (List ℕ)) → StandsFor texts image → texts ≡ []

-- At `Ok` the disk had nothing and holds the empty journal; `NotEmpty` tells its length and changes nothing.
abbrev pub Empties : Option Told → Option Told → ℕ → ℕ → Result (Unit {0}) InitFault → Type 0
Empties old new before now (Ok x) = IfSome old (λ t. t.now.bytes ≡ []) × Settled [] 9 new
Empties old new before now (Err Fault) = Rose before now
Empties old new before now (Err (NotEmpty n)) = (n ≢ 0) × IfSome old (λ t. n ≡ length t.now.bytes) × (new ≡ old)
