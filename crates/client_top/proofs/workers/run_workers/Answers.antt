use Rattle.std.proofs.Common.{◌≡◌, ◌+◌, length, map, sym, ◌∙◌, arith}
use Rattle.client_top.proofs.Loops.{lent_for, same_maps, told_of}
use Rattle.client_top.proofs.workers.run_workers.Goals as goal

pub returns-in-Ok-clause-share : goal.returns-in-Ok-clause-share
returns-in-Ok-clause-share g c =
    let len : length c.split_jobs.new.jobs.items ≡ 0 + length c.run_all.new.jobs.items = omega (arith, c.run_all.ensures.len) in
    let lent = c.join_jobs.ensures.lent c.args.pass.now.view 0 (lent_for _ _ _ _ len c.in-Ok.ensures.lent) in
    omega (arith, lent.share)

pub returns-in-Ok-clause-facts : goal.returns-in-Ok-clause-facts
returns-in-Ok-clause-facts g c =
    let len : length c.split_jobs.new.jobs.items ≡ 0 + length c.run_all.new.jobs.items = omega (arith, c.run_all.ensures.len) in
    (c.join_jobs.ensures.lent c.args.pass.now.view 0 (lent_for _ _ _ _ len c.in-Ok.ensures.lent)).facts

pub returns-in-Ok-clause-seen : goal.returns-in-Ok-clause-seen
returns-in-Ok-clause-seen g c =
    let len : length c.split_jobs.new.jobs.items ≡ 0 + length c.run_all.new.jobs.items = omega (arith, c.run_all.ensures.len) in
    (c.join_jobs.ensures.lent c.args.pass.now.view 0 (lent_for _ _ _ _ len c.in-Ok.ensures.lent)).seen

pub returns-in-Ok-clause-rises : goal.returns-in-Ok-clause-rises
returns-in-Ok-clause-rises g c =
    let len : length c.split_jobs.new.jobs.items ≡ 0 + length c.run_all.new.jobs.items = omega (arith, c.run_all.ensures.len) in
    (c.join_jobs.ensures.lent c.args.pass.now.view 0 (lent_for _ _ _ _ len c.in-Ok.ensures.lent)).rises

pub returns-in-Ok-clause-outcomes : goal.returns-in-Ok-clause-outcomes
returns-in-Ok-clause-outcomes g c =
    let old = c.split_jobs.new.jobs.items in
    let new = c.run_all.new.jobs.items in
    let len : length old ≡ 0 + length new = omega (arith, c.run_all.ensures.len) in
    let lent = c.join_jobs.ensures.lent c.args.pass.now.view 0 (lent_for _ _ _ _ len c.in-Ok.ensures.lent) in
    let same = same_maps (λ job. job.moments.now) old new c.run_all.ensures.len (λ i d lt. (c.run_all.ensures.same i d lt).moments_are) in
    told_of _ (λ lists. map (λ list. list.items) lists.items) _ _ _ _ _ (c.in-Ok.ensures.lent.facts ∙ sym lent.facts) (same ∙ c.in-Ok.ensures.whole)
    c.join_jobs.ensures.outcomes

pub returns-in-Err-clause-share : goal.returns-in-Err-clause-share
returns-in-Err-clause-share g c =
    let len : length c.split_jobs.new.jobs.items ≡ 0 + length c.split_jobs.new.jobs.items = omega arith in
    let lent = c.join_jobs-in-Err.ensures.lent c.args.pass.now.view 0 (lent_for _ _ _ _ len c.in-Err.ensures.lent) in
    omega (arith, lent.share)

pub returns-in-Err-clause-facts : goal.returns-in-Err-clause-facts
returns-in-Err-clause-facts g c =
    let len : length c.split_jobs.new.jobs.items ≡ 0 + length c.split_jobs.new.jobs.items = omega arith in
    (c.join_jobs-in-Err.ensures.lent c.args.pass.now.view 0 (lent_for _ _ _ _ len c.in-Err.ensures.lent)).facts

pub returns-in-Err-clause-seen : goal.returns-in-Err-clause-seen
returns-in-Err-clause-seen g c =
    let len : length c.split_jobs.new.jobs.items ≡ 0 + length c.split_jobs.new.jobs.items = omega arith in
    (c.join_jobs-in-Err.ensures.lent c.args.pass.now.view 0 (lent_for _ _ _ _ len c.in-Err.ensures.lent)).seen

pub returns-in-Err-clause-rises : goal.returns-in-Err-clause-rises
returns-in-Err-clause-rises g c =
    let len : length c.split_jobs.new.jobs.items ≡ 0 + length c.split_jobs.new.jobs.items = omega arith in
    (c.join_jobs-in-Err.ensures.lent c.args.pass.now.view 0 (lent_for _ _ _ _ len c.in-Err.ensures.lent)).rises
