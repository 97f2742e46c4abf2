use Rattle.std.proofs.Common.{◌≡◌, drop}
use Rattle.cel_eval.specs.Denotation.{lookup}
use Rattle.cel_eval.proofs.scope.find_given.Given as goal

abbrev pub invariant-loop-binding : goal.invariant-loop-binding
invariant-loop-binding l = lookup l.name (drop l.binding-index l.given) ≡ lookup l.name l.given
