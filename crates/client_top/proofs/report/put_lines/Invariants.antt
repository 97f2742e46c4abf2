use Rattle.std.proofs.Common.{◌≡◌, ◌++◌, drop}
use Rattle.std.specs.Prelude.{string_bytes}
use Rattle.client_top.specs.Report.{lines_of}
use Rattle.client_top.proofs.report.put_lines.Given as goal

abbrev pub invariant-loop-place : goal.invariant-loop-place
invariant-loop-place l =
    string_bytes l.text ++ lines_of l.worker (drop l.place l.moments) (drop l.place l.outcomes) ≡ string_bytes l.fn.text
    ++ lines_of l.worker l.moments l.outcomes
