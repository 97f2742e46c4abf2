use Rattle.std.proofs.Common.{◌≡◌, drop}
use Rattle.std.specs.Option.{option_copied}
use Rattle.cel_types.specs.Rows.{common, results_of}
use Rattle.cel_types.proofs.Gathered.{gather_all, gathered_type}
use Rattle.cel_types.proofs.rows.common.Given as goal

abbrev pub invariant-loop-row : goal.invariant-loop-row
invariant-loop-row l = gathered_type l.function (gather_all l.results (results_of l.function l.first (option_copied l.second) (drop l.row-index l.rows))) ≡ common l.function (results_of l.function l.first (option_copied l.second) l.rows)
