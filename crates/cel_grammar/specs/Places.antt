-- The states that places and frames stand for.
use Rattle.std.specs.Prelude.{List, [], ◌∷◌, Option, Some, None}
use Rattle.cel_grammar.specs.declared.frames.Frame.{Frame}
use Rattle.cel_grammar.specs.declared.frames.Place.{Place}
use Rattle.cel_grammar.specs.Machine.{State}

-- the frames, each after the one that it is in, before those of a stack
abbrev pub onto : List Frame → List Frame → List Frame
onto [] st = st
onto (f ∷ fs) st = onto fs (f ∷ st)

-- the stack that the frames stand for: the last one is the innermost
abbrev pub stack_of : List Frame → List Frame
stack_of fs = onto fs []

-- the state of a place and the frames around it
abbrev pub state_of : Place → List Frame → State
state_of Place.Operand fs = State.operand (stack_of fs)
state_of (Place.Dotted e) fs = State.dotted e (stack_of fs)
state_of (Place.After last) fs = State.after last (stack_of fs)

-- the state of the next place, if there is one
abbrev pub next_of : Option Place → List Frame → Option State
next_of None fs = None
next_of (Some place) fs = Some (state_of place fs)
