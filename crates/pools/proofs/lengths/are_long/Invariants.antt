use Rattle.std.proofs.Common.{◌≡◌, drop}
use Rattle.std.specs.List.{list_any}
use Rattle.pools.specs.Lengths.{is_long_group}
use Rattle.pools.proofs.lengths.are_long.Given as goal

abbrev pub invariant-loop-group : goal.invariant-loop-group
invariant-loop-group l = list_any is_long_group (drop l.group-index l.groups) ≡ list_any is_long_group l.groups
