-- What a step of an admission answers.
use Rattle.std.specs.Prelude.{◌≡◌, ◌⊎◌, Option, None, Some, Result, Ok, Err, ⊤}
use Rattle.pools.specs.declared.fault.MapFault.{MapFault}
use Rattle.pools.specs.declared.fault.MapFault.TheVariants.{Memory}

-- what there is, or the first rule that fails, unless memory runs out
abbrev pub Answers : {X : Type 0} → Result X MapFault → Result X MapFault → Type 0
Answers result there = (result ≡ there) ⊎ (result ≡ Err Memory)

-- nothing, where no rule fails
abbrev pub passed : Option MapFault → Result ⊤ MapFault
passed None = Ok tt
passed (Some f) = Err f
