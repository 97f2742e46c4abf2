-- Steps that give a value or the fault of the first that fails.
use Rattle.std.specs.Prelude.{Option, None, Some, Result, Ok, Err}

infixl 10 ◌>>=◌
abbrev pub ◌>>=◌ : {X Y E : Type 0} → Result X E → (X → Result Y E) → Result Y E
(Ok x) >>= next = next x
(Err fault) >>= next = Err fault

-- the value, or the fault of the rule that asks for one
abbrev pub needed : {X E : Type 0} → E → Option X → Result X E
needed fault None = Err fault
needed fault (Some x) = Ok x
