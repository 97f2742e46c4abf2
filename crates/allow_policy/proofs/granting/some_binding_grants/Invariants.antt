use Rattle.std.proofs.Common.{◌≡◌, drop}
use Rattle.std.specs.List.{list_any}
use Rattle.allow_policy.specs.Granting.{binding_grants}
use Rattle.allow_policy.proofs.granting.some_binding_grants.Given as goal

abbrev pub invariant-loop-binding : goal.invariant-loop-binding
invariant-loop-binding l =
    list_any (binding_grants l.p.lists l.who l.permission l.resource l.now) (drop l.binding-index l.bindings)
    ≡ list_any (binding_grants l.p.lists l.who l.permission l.resource l.now) l.bindings
