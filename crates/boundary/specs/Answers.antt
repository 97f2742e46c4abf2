-- What a reader of a boundary's parts answers.
use Rattle.std.specs.Prelude.{◌≡◌, Result, Ok, Err, ⊤}
use Rattle.boundary.specs.declared.fault.BoundaryError.{BoundaryError}
use Rattle.boundary.specs.declared.fault.BoundaryError.TheVariants.{Fault, Memory}
use Rattle.boundary.specs.Boundaries.{Refusal, refusal}

-- an error says which rule is refused and why; want of memory says nothing
abbrev pub Refuses : {X : Type 0} → BoundaryError → Result X Refusal → Type 0
Refuses (Fault rule cause) there = there ≡ Err (refusal rule cause)
Refuses Memory there = ⊤

-- what was read is what there is
abbrev pub Gives : {X : Type 0} → Result X BoundaryError → Result X Refusal → Type 0
Gives (Ok x) there = there ≡ Ok x
Gives (Err error) there = Refuses error there
