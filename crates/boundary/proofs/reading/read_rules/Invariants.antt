use Rattle.std.proofs.Common.{◌≡◌, drop}
use Rattle.std.specs.List.{AllByRecursion}
use Rattle.serde_json.specs.View.{items_view}
use Rattle.boundary.specs.Boundaries.{rules_from}
use Rattle.boundary.specs.Exact.{AreSaid}
use Rattle.boundary.proofs.Readings.{behind}
use Rattle.boundary.proofs.reading.read_rules.Given as goal

abbrev pub invariant-loop-number : goal.invariant-loop-number
invariant-loop-number l = record {
  so_far : rules_from 0 (items_view l.items) ≡ behind l.rules (rules_from l.number (items_view (drop l.number l.items)));
  said : AllByRecursion AreSaid l.rules;
}
