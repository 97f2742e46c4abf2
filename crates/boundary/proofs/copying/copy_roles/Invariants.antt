use Rattle.std.proofs.Common.{◌≡◌, take}
use Rattle.boundary.proofs.copying.copy_roles.Given as goal

abbrev pub invariant-loop-role : goal.invariant-loop-role
invariant-loop-role l = l.same ≡ take l.role-index l.roles
