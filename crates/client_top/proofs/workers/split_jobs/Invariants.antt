use Rattle.std.proofs.Common.{map, take}
use Rattle.client_top.specs.Jobs.{IsReady}
use Rattle.client_top.proofs.Loops.{AreSplit}
use Rattle.client_top.proofs.workers.split_jobs.Given as goal

abbrev pub invariant-loop-list : goal.invariant-loop-list
invariant-loop-list g l =
    AreSplit (λ job. job.moments.now) (IsReady l.renewer.table l.fn.pass.view.facts 200_000_000_000) l.fn.pass l.pass
    (map (λ list. list.items) (take l.list-index l.moments)) l.jobs.items
