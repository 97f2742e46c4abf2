use Rattle.std.proofs.Common.{◌≡◌, ◌++◌, drop, map}
use Rattle.cel_lines.specs.TypeText.{declared_dyn}
use Rattle.cel_lines.proofs.type_text.declarations_of.Given as goal

abbrev pub invariant-loop-binding : goal.invariant-loop-binding
invariant-loop-binding l = l.declarations ++ map declared_dyn (drop l.binding-index l.env) ≡ map declared_dyn l.env
