-- What is taken off the stack.
use Rattle.std.specs.Prelude.{◌≡◌, ℕ, ◌≤◌, ◌<◌, List, [], ◌∷◌, Option, Some, None, length}
use Rattle.cel_grammar.specs.declared.draft.Draft.{Draft}
use Rattle.cel_grammar.specs.declared.frames.Pending.{Pending}
use Rattle.cel_grammar.specs.declared.frames.Frame.{Frame}
use Rattle.cel_grammar.specs.declared.frames.Frame.TheVariants.{Waiting}
use Rattle.cel_grammar.specs.Machine.{level_of, reduce}
use Rattle.cel_grammar.specs.Places.{stack_of}

-- the innermost frame was taken off
abbrev pub IsTop : List Frame → List Frame → Option Frame → Type 0
IsTop old new None = (stack_of old ≡ []) × (stack_of new ≡ [])
IsTop old new (Some f) = (stack_of old ≡ f ∷ stack_of new) × (length new < length old)

-- at this level reducing changes nothing
abbrev pub Stays : ℕ → List Frame → Type 0
Stays l st = (e : Draft) → reduce l e st ≡ (e, st)

-- what is pending at this level or a stronger one was taken off, or nothing is and nothing was
abbrev pub IsTaken : ℕ → List Frame → List Frame → Option Pending → Type 0
IsTaken l old new None = (stack_of new ≡ stack_of old) × Stays l (stack_of old)
IsTaken l old new (Some p) = (stack_of old ≡ Waiting p ∷ stack_of new) × (l ≤ level_of p) × (length new < length old)
