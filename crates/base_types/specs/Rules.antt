-- Rules in an order, of which the first that fails counts.
use Rattle.std.specs.Prelude.{List, [], ◌∷◌, Bool, Option, None, Some, if◌then◌else◌}

-- a rule that fails says so, or passes
abbrev pub fails_if : {R : Type 0} → Bool → R → Option R
fails_if failed fault = if failed then Some fault else None

-- what the first failing rule says, else the other
abbrev pub first_failing : {R : Type 0} → List (Option R) → R → R
first_failing [] other = other
first_failing (None ∷ rules) other = first_failing rules other
first_failing (Some fault ∷ rules) other = fault

-- the first failing rule, or none
abbrev pub first_of : {R : Type 0} → List (Option R) → Option R
first_of [] = None
first_of (None ∷ rules) = first_of rules
first_of (Some fault ∷ rules) = Some fault
