use Rattle.std.proofs.Common.{ℕ, ◌<◌}
use Rattle.case_table.specs.Cases.{IsNew}
use Rattle.case_table.proofs.table.Table.new.Given as goal

abbrev pub invariant-loop-second : goal.invariant-loop-second
invariant-loop-second g l = (at : ℕ) → at < l.second → IsNew l.rows at
