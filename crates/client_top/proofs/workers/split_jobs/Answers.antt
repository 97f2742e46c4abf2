use Rattle.std.proofs.Common.{◌≡◌, get_or, map, take, ap, subst, ◌∙◌}
use Rattle.std.proofs.lemmas.List.{map_more}
use Rattle.shared_renewer.specs.declared.view.ClientFacts.{ClientFacts}
use Rattle.client_top.specs.Jobs.{IsReady}
use Rattle.client_top.proofs.Loops.{one_split}
use Rattle.client_top.proofs.workers.split_jobs.Goals as goal

pub loop-list-preserved : goal.loop-list-preserved
loop-list-preserved g c =
    let i = c.loop-list.list-index in
    let all = c.args.moments.now in
    let list = c.list-item.result in
    let so_far = c.loop-list.invariant in
    let e = c.in_ok-add_job.ensures in
    let job = e.added.0 in
    let fits = subst (λ (f : ClientFacts). IsReady c.args.renewer.now.table f 200_000_000_000 job) so_far.lent.facts e.added.3 in
    let more = one_split (λ job. job.moments.now) (IsReady c.args.renewer.now.table c.args.pass.now.view.facts 200_000_000_000) c.args.pass.now
    c.loop-list.pass c.add_job.new.pass (map (λ list. list.items) (take i all)) c.loop-list.jobs.items job so_far e.table e.lent e.lost fits in
    let here : job.moments.now ≡ (get_or all i list).items = e.added.2 ∙ c.as_slice.ensures.value ∙ ap (λ list. list.items) c.list-item.is in
    rw (map_more (λ list. list.items) all i list c.loop-list-test.true, e.added.1, ← here) more
