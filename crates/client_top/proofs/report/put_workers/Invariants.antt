use Rattle.std.proofs.Common.{◌≡◌, ◌++◌, drop, map}
use Rattle.std.specs.Prelude.{string_bytes}
use Rattle.client_top.specs.Report.{lines_from}
use Rattle.client_top.proofs.report.put_workers.Given as goal

abbrev pub invariant-loop-worker : goal.invariant-loop-worker
invariant-loop-worker l =
    string_bytes l.text ++ lines_from l.worker (drop l.worker (map (λ list. list.items) l.moments)) (drop l.worker (map (λ list. list.items) l.lists))
    ≡ string_bytes l.fn.text ++ lines_from 0 (map (λ list. list.items) l.moments) (map (λ list. list.items) l.lists)
