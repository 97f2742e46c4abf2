use Rattle.std.proofs.Common.{◌≡◌, drop}
use Rattle.cel_types.specs.Rules.{declared}
use Rattle.cel_types.proofs.scope.find_given.Given as goal

abbrev pub invariant-loop-declaration : goal.invariant-loop-declaration
invariant-loop-declaration l = declared l.name (drop l.declaration-index l.given) ≡ declared l.name l.given
