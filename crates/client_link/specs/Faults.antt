-- When a link may answer `Failed`: where its count of faults has risen.
use Rattle.std.specs.Prelude.{◌≡◌, ℕ, ◌≤◌, Result, Ok, Err, ⊤}
use Rattle.wif_base.specs.Causes.{Rose}
use Rattle.wif_base.specs.Counts.{next_count}
use Rattle.client_link.specs.declared.fault.LinkError.{LinkError}
use Rattle.client_link.specs.declared.fault.LinkError.TheVariants.{Failed, Memory}

-- want of memory has no cause
abbrev pub HasRisen : {T : Type 0} → ℕ → ℕ → Result T LinkError → Type 0
HasRisen before now (Ok reply) = ⊤
HasRisen before now (Err Failed) = Rose before now
HasRisen before now (Err Memory) = ⊤

-- The count never falls, and `Failed` comes only where it rose.
pub record FailsByCount {T : Type 0} (before now : ℕ) (result : Result T LinkError) : Type 0 where
  pub later : before ≤ now
  pub failed : HasRisen before now result

-- the count is one more where the outside failed, and else as before
abbrev pub CountsFailed : {T : Type 0} → ℕ → ℕ → Result T LinkError → Type 0
CountsFailed before now (Ok reply) = now ≡ before
CountsFailed before now (Err Failed) = now ≡ next_count before
CountsFailed before now (Err Memory) = now ≡ before
