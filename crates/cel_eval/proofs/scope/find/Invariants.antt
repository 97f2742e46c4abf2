use Rattle.std.proofs.Common.{◌≡◌, ◌≤◌, ◌++◌, length, take, reverse}
use Rattle.cel_eval.specs.Denotation.{lookup}
use Rattle.cel_eval.specs.Scopes.{env_of}
use Rattle.cel_eval.proofs.scope.find.Given as goal

abbrev pub invariant-loop-left : goal.invariant-loop-left
invariant-loop-left l = record {
  within : l.left ≤ length l.bound;
  same : lookup l.name (reverse (take l.left l.bound) ++ l.scope.given.now) ≡ lookup l.name (env_of l.scope);
}

abbrev pub decreases-loop-left : goal.decreases-loop-left
decreases-loop-left l = l.left
