use Rattle.std.proofs.Common.{◌≡◌, ◌++◌, drop, option_map}
use Rattle.serde_json.specs.View.{items_view}
use Rattle.json_text.specs.Arrays.{each}
use Rattle.json_text.proofs.each.read_each.Given as goal

abbrev pub invariant-loop-item : goal.invariant-loop-item
invariant-loop-item g l = each g.R.ReadsJson.meaning (items_view l.items) ≡ option_map (λ rest. l.found ++ rest) (each g.R.ReadsJson.meaning (items_view (drop l.item-index l.items)))
