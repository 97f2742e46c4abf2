use Rattle.std.proofs.Common.{◌≡◌, drop}
use Rattle.std.specs.List.{list_any}
use Rattle.allow_policy.specs.Granting.{policy_grants}
use Rattle.allow_policy.proofs.granting.granted.Given as goal

abbrev pub invariant-loop-policy : goal.invariant-loop-policy
invariant-loop-policy l =
    list_any (policy_grants l.p.lists l.who l.permission l.resource l.now) (drop l.policy-index l.policy-items)
    ≡ list_any (policy_grants l.p.lists l.who l.permission l.resource l.now) l.p.lists.policies
