use Rattle.std.proofs.Common.{◌≡◌, ◌∷◌, [], length, map, ap, sym, ◌∙◌, arith}
use Rattle.std.proofs.lemmas.List.{map-append}
use Rattle.std.proofs.lemmas.Result.{IfOk-at_ok}
use Rattle.std.specs.Vec.Iter.{into_iter_items}
use Rattle.client_top.specs.Jobs.{HasFound}
use Rattle.client_top.proofs.Loops.{all_joined, lent_for, none_joined, none_left, one_joined}
use Rattle.client_top.proofs.workers.join_jobs.Goals as goal

pub loop-job-init : goal.loop-job-init
loop-job-init g c =
    let gives = c.into_iter-job-iterator.ensures.into_iter_gives in
    let len = gives.1 ∙ c.args.jobs.ok.0 ∙ ap length (sym gives.0) in
    let start = none_joined (λ job. job.moments.now) _ c.args.pass.now c.args.jobs.items (λ i d lt. (c.requires.parts i d lt, c.requires.done i d lt)) in
    (tt, tt, len, rw (gives.0, c.new-lists.ensures.items) start)

pub loop-job-preserved : goal.loop-job-preserved
loop-job-preserved g c =
    let job = c.in-Some.job in
    let steps = c.in-Some.ensures.steps in
    let before = rw steps.0 at c.loop-job.invariant.3 in
    let len = ap length steps.0 in
    let fits = before.each 0 job (omega arith) in
    let e = c.end.ensures in
    let lists = c.loop-job.lists.items in (
      tt,
      tt,
      omega (arith, c.loop-job.invariant.2, len, steps.1),
      one_joined (λ job. job.moments.now) _ c.end.new.into.view.last c.args.pass.now c.loop-job.pass c.end.new.into job.pass c.loop-job.whole c.put_list-whole.result
          c.args.jobs.items (into_iter_items c.next.new.self) job (map (λ list. list.items) lists) (map (λ list. list.items) c.put_list-whole.new.lists.items)
          before e.table e.view e.prefixes.0 e.prefixes.1 fits.0.share fits.0.facts_is
          (λ is.
          let put = c.put_list-whole.ensures.put is in
          let more = ap (map (λ list. list.items)) put.2 ∙ map-append (λ list. list.items) lists (put.0 ∷ []) in
          (c.put_list-whole.ensures.whole is, (put.0.items, more, IfOk-at_ok (λ outcomes. HasFound job.pass job.moments.now outcomes.items) put.1 fits.1))),
    )

pub returns-then-whole-clause-lent : goal.returns-then-whole-clause-lent
returns-then-whole-clause-lent g c = λ first lent h.
    let none : length (into_iter_items c.loop-job.job-iterator) ≡ 0 = sym c.loop-job.invariant.2 ∙ c.in-None.ensures.steps.0 in
    lent_for _ lent _ _ (omega (arith, none)) (c.loop-job.invariant.3.lent first lent h)

pub returns-then-whole-clause-outcomes : goal.returns-then-whole-clause-outcomes
returns-then-whole-clause-outcomes g c =
    let none : length (into_iter_items c.loop-job.job-iterator) ≡ 0 = sym c.loop-job.invariant.2 ∙ c.in-None.ensures.steps.0 in
    all_joined (λ job. job.moments.now) _ c.args.pass.now c.loop-job.pass c.loop-job.whole c.args.jobs.items _
    (map (λ list. list.items) c.loop-job.lists.items) (none_left _ none) c.if-whole.true c.loop-job.invariant.3

pub returns-clause-lent : goal.returns-clause-lent
returns-clause-lent g c = λ first lent h.
    let none : length (into_iter_items c.loop-job.job-iterator) ≡ 0 = sym c.loop-job.invariant.2 ∙ c.in-None.ensures.steps.0 in
    lent_for _ lent _ _ (omega (arith, none)) (c.loop-job.invariant.3.lent first lent h)
