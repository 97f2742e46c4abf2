use Rattle.std.proofs.Common.{◌≡◌, drop}
use Rattle.case_table.specs.Cases.{found}
use Rattle.case_table.proofs.table.value_under.Given as goal

abbrev pub invariant-loop-row : goal.invariant-loop-row
invariant-loop-row l = found l.key (drop l.row-index l.rows) ≡ found l.key l.rows
