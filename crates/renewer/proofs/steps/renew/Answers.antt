use Rattle.std.specs.Prelude.{Ok}
use Rattle.renewer.specs.Steps.{AsksRenewal, AsksServices, AsksSubject}
use Rattle.renewer.proofs.Stepping.{renewal_joined}
use Rattle.renewer.proofs.Telling.{tells-then}
use Rattle.renewer.proofs.steps.renew.Goals as goal

pub returns-in-Ok-clause-told : goal.returns-in-Ok-clause-told
returns-in-Ok-clause-told g c =
    let config = c.args.config.now in
    let at = c.args.at in
    let text = c.as_str.result.now in
    tells-then (AsksSubject config at (Ok c.in-Ok.subject)) (AsksServices config at text c.ask_services.result) (AsksRenewal config at c.ask_services.result)
    _ _ _ c.in-Ok.ensures.told c.ask_services.ensures.told
    (λ m n first then. renewal_joined config at c.in-Ok.subject text c.ask_services.result m n c.as_str.ensures c.ask_services.ensures.asked first then)
