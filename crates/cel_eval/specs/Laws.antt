-- Which operators take both operands.
use Rattle.std.specs.Prelude.{◌≡◌}
use Rattle.cel_values.specs.declared.expr.BinaryOp.{BinaryOp}
use Rattle.cel_eval.specs.Denotation.{logic}
use Rattle.cel_eval.specs.declared.operators.Logic.{Logic}

-- all but `&&` and `||`
abbrev pub IsStrict : BinaryOp → Type 0
IsStrict op = logic op ≡ Logic.Neither
