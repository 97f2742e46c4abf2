use Rattle.std.proofs.Common.{ap, refl, ◌∙◌}
use Rattle.shared_renewer.specs.Passes.{Known}
use Rattle.client_top.specs.Jobs.{IsPart}
use Rattle.client_top.proofs.workers.add_job.Goals as goal

pub returns-in-Ok-clause-added : goal.returns-in-Ok-clause-added
returns-in-Ok-clause-added g c =
    let e = c.in_ok-part.ensures.pass in
    let table = ap (λ (p : Known). p.table) e ∙ c.requires.table in
    let first : IsPart c.args.renewer.now.table c.args.pass.now.view.facts c.in_ok-part.part =
    record { table_is = table; share = ap (λ (p : Known). p.view.share) e; facts_is = ap (λ (p : Known). p.view.facts) e } in (
      _,
      c.in-Ok.ensures.items,
      refl,
      (first, record { table_is = table; lost = ap (λ (p : Known). p.view.lost) e; within = c.requires.moments }, refl),
    )
