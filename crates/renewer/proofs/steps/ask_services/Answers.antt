use Rattle.std.specs.Prelude.{Ok}
use Rattle.renewer.specs.Steps.{AsksAccount, AsksExchange, AsksServices}
use Rattle.renewer.proofs.Stepping.{services_joined}
use Rattle.renewer.proofs.Telling.{tells-then}
use Rattle.renewer.proofs.steps.ask_services.Goals as goal

pub returns-in-Ok-clause-told : goal.returns-in-Ok-clause-told
returns-in-Ok-clause-told g c =
    let config = c.args.config.now in
    let at = c.args.at in
    let subject = c.args.subject.now in
    tells-then (AsksExchange config at subject (Ok c.in-Ok.given)) (AsksAccount config at c.in-Ok.given c.ask_account.result) (AsksServices config at subject c.ask_account.result)
    _ _ _ c.in-Ok.ensures.told c.ask_account.ensures.told (services_joined config at subject c.in-Ok.given c.ask_account.result)
