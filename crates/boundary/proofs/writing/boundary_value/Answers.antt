use Rattle.std.proofs.Common.{◌≡◌, ◌∙◌, ap, length, map, take_all, arith}
use Rattle.serde_json.specs.View.{view}
use Rattle.serde_json.proofs.Views.{view-Array}
use Rattle.boundary.specs.Written.{rule_data, boundary_data}
use Rattle.boundary.proofs.WrittenParts.{array_written}
use Rattle.boundary.proofs.writing.boundary_value.Goals as goal

pub returns : goal.returns
unfolding boundary_data
returns c =
    let rules = c.args.boundary.now.rules in
    let all : map view c.loop-rule.values.items ≡ map rule_data rules =
    c.loop-rule.invariant ∙ ap (map rule_data) (take_all c.loop-rule.rule-index rules (omega (arith, ap length c.as_slice-rule-items.ensures))) in
    view-Array c.loop-rule.values ∙ array_written rule_data c.loop-rule.values.items rules all
