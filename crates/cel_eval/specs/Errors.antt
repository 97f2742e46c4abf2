-- The error that came first.
use Rattle.std.specs.Prelude.{ℕ, List, [], ◌∷◌, Bool, true, false, Option, None, Some, Ok, Err}
use Rattle.cel_values.specs.declared.error.EvalError.{EvalError}
use Rattle.cel_builtins.specs.declared.function.Function.{Function}
use Rattle.cel_values.specs.declared.value.Value.{Value, out-Value}
use Rattle.cel_values.specs.declared.expr.BinaryOp.{BinaryOp}
use Rattle.cel_builtins.specs.Outcomes.{Or, Outcome, ◌>>=◌}
use Rattle.cel_builtins.specs.Functions.{applied}
use Rattle.cel_eval.specs.Denotation.{selected, presence, indexed, strict, called}

-- the first error, or this one
abbrev pub earlier : Option EvalError → EvalError → Option EvalError
earlier None error = Some error
earlier (Some first) error = Some first

-- the answer, where there was no error
abbrev pub unless_error : Option EvalError → Bool → Or Bool
unless_error None answer = Ok answer
unless_error (Some first) answer = Err first

-- operators of one part, on what the part means
abbrev pub applied_to : Function → Outcome → Outcome
applied_to f outcome = outcome >>= λ v. applied f (v ∷ [])

-- a selection from what the part means
abbrev pub selected_from : List ℕ → Outcome → Outcome
selected_from field outcome = outcome >>= λ v. selected field (out-Value v)

-- `has` of what the part means
abbrev pub present_in : List ℕ → Outcome → Outcome
present_in field outcome = outcome >>= λ v. presence field (out-Value v)

-- an index of a value, on what the index means
abbrev pub indexed_by : Value → Outcome → Outcome
indexed_by v outcome = outcome >>= λ k. indexed (out-Value v) (out-Value k)

-- an operator that takes both operands, on what the right one means
abbrev pub strict_on : BinaryOp → Value → Outcome → Outcome
strict_on op a outcome = outcome >>= λ b. strict op a b

-- a member of the target, on what its arguments are
abbrev pub member_on : List ℕ → Value → Or (List Value) → Outcome
member_on name target outcome = outcome >>= λ vs. called true name (target ∷ vs)

-- a function, on what its arguments are
abbrev pub called_on : List ℕ → Or (List Value) → Outcome
called_on name outcome = outcome >>= called false name
