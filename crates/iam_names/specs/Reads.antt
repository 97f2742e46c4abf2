-- What a reader of names answers.
use Rattle.std.specs.Prelude.{◌≡◌, Option, None, Result}
use Rattle.base_types.specs.Reading.{ReadsOr}
use Rattle.iam_names.specs.declared.fault.NameError.{NameError}
use Rattle.iam_names.specs.declared.fault.NameError.TheVariants.{Form, Memory}

-- Form says that there is no such name, and want of memory says nothing
abbrev pub RefusesName : {X : Type 0} → NameError → Option X → Type 0
RefusesName Form there = there ≡ None
RefusesName Memory there = Unit {0}

-- the name that the text says, or Form where it says none
abbrev pub ReadsName : {X : Type 0} → Result X NameError → Option X → Type 0
ReadsName result there = ReadsOr RefusesName (λ x. x) result there
