use Rattle.base_types.proofs.TextMapLemmas.{sorted_by_bytes}
use Rattle.base_types.proofs.text_map.TextMap.new.Goals as goal

pub invariant_of-result : goal.invariant_of-result
invariant_of-result g c = sorted_by_bytes c.new.result.entries c.new.ensures.ordered
