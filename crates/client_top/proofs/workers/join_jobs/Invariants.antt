use Rattle.std.proofs.Common.{◌≡◌, length, map}
use Rattle.std.specs.Vec.Iter.{into_iter_items, into_iter_len}
use Rattle.client_top.specs.Jobs.{IsDone, IsPart}
use Rattle.client_top.proofs.Loops.{AreJoined}
use Rattle.client_top.proofs.workers.join_jobs.Given as goal

abbrev pub invariant-loop-job : goal.invariant-loop-job
invariant-loop-job g l =
    (goal.iterator-loop-job g).can_next l.job-iterator × (goal.iterator-loop-job g).is_finite l.job-iterator
    × (into_iter_len l.job-iterator ≡ length (into_iter_items l.job-iterator))
    × AreJoined (λ job. job.moments.now) (λ job. IsPart l.renewer.table l.fn.pass.view.facts job.pass × IsDone job) l.fn.pass l.pass l.whole
    l.fn.jobs.items (into_iter_items l.job-iterator) (map (λ list. list.items) l.lists.items)
