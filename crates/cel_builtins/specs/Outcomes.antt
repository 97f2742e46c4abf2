-- Outcomes: a value or an error.
use Rattle.std.specs.Prelude.{◌≡◌, List, [], ◌∷◌, Result, Ok, Err, nat_le, if◌then◌else◌}
use Rattle.cel_values.specs.declared.error.EvalError.{EvalError}
use Rattle.cel_values.specs.declared.error.EvalError.TheVariants.{TooLong}
use Rattle.cel_values.specs.declared.error.EvalStop.{EvalStop}
use Rattle.cel_values.specs.declared.error.EvalStop.TheVariants as stop
use Rattle.cel_values.specs.declared.value.Value.{Value}
use Rattle.cel_values.specs.declared.value.Value.TheOpen.{Value-F}
use Rattle.cel_values.specs.declared.value.MapEntry.{MapEntry}
use Rattle.cel_values.specs.Weight.{weight}

-- what is computed, or an error
abbrev pub Or : Type 0 → Type 0
Or A = Result A EvalError

-- a value or an error
abbrev pub Outcome : Type 0
Outcome = Or Value

-- the outermost layer of a value
abbrev pub Shape : Type 0
Shape = Value-F Value MapEntry

infixl 10 ◌>>=◌
-- goes on with what was computed, or keeps the error
abbrev pub ◌>>=◌ : {A B : Type 0} → Or A → (A → Or B) → Or B
(Ok x) >>= f = f x
(Err e) >>= f = Err e

-- all of them, or the first error
abbrev pub in_order : {A : Type 0} → List (Or A) → Or (List A)
in_order [] = Ok []
in_order (Ok x ∷ rest) = in_order rest >>= λ xs. Ok (x ∷ xs)
in_order (Err e ∷ rest) = Err e

-- a stop for want of memory says nothing of the outcome
abbrev pub Stops : {A : Type 0} → EvalStop → Or A → Type 0
Stops stop.Memory outcome = Unit {0}
Stops (stop.Error e) outcome = outcome ≡ Err e

-- what an evaluation gives is this outcome, unless memory ran out
abbrev pub Gives : {A : Type 0} → Result A EvalStop → Or A → Type 0
Gives (Ok x) outcome = outcome ≡ Ok x
Gives (Err e) outcome = Stops e outcome

-- the value, unless it is too heavy
abbrev pub weighed : Value → Outcome
weighed v = if nat_le (weight v) 65536 then Ok v else Err TooLong
