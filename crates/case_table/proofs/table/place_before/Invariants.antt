use Rattle.std.proofs.Common.{◌≢◌, ◌<◌, ℕ}
use Rattle.case_table.specs.Cases.{key_at}
use Rattle.case_table.proofs.table.place_before.Given as goal

abbrev pub invariant-loop-place : goal.invariant-loop-place
invariant-loop-place l = (at : ℕ) → at < l.place → key_at l.rows at ≢ l.key
