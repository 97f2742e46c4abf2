use Rattle.std.proofs.Common.{◌≡◌, drop}
use Rattle.std.specs.List.{list_any}
use Rattle.boundary.specs.Allowing.{rule_allows}
use Rattle.boundary.proofs.allowing.allows.Given as goal

abbrev pub invariant-loop-rule : goal.invariant-loop-rule
invariant-loop-rule l =
    list_any (rule_allows l.roles.rows l.permission l.resource l.now) (drop l.rule-index l.rule-items)
    ≡ list_any (rule_allows l.roles.rows l.permission l.resource l.now) l.boundary.rules
