use Rattle.std.proofs.Common.{◌≡◌, ◌≤◌, ◌++◌, length, take, reverse}
use Rattle.cel_types.specs.Rules.{declared}
use Rattle.cel_types.specs.Scopes.{declarations_of}
use Rattle.cel_types.proofs.scope.find.Given as goal

abbrev pub invariant-loop-left : goal.invariant-loop-left
invariant-loop-left l = record {
  within : l.left ≤ length l.bound;
  same : declared l.name (reverse (take l.left l.bound) ++ l.scope.given.now) ≡ declared l.name (declarations_of l.scope);
}

abbrev pub decreases-loop-left : goal.decreases-loop-left
decreases-loop-left l = l.left
