use Rattle.std.proofs.Common.{◌≡◌, ◌∙◌, sym, ap, subst}
use Rattle.std.specs.Prelude.{Ok}
use Rattle.client_link.specs.declared.target.Target.TheVariants.{Account}
use Rattle.client_proto.specs.Requests.{account_text}
use Rattle.renewer.specs.Renewed.{EndsRenewal}
use Rattle.renewer.specs.Steps.{AsksAccount, AsksService}
use Rattle.renewer.specs.declared.renewal.Renewal.{Renewal}
use Rattle.renewer.proofs.Stepping.{account_ends}
use Rattle.renewer.proofs.Telling.{tells-as}
use Rattle.renewer.proofs.steps.ask_account.Goals as goal

pub returns-in-Ok-clause-told : goal.returns-in-Ok-clause-told
returns-in-Ok-clause-told g c =
    let config = c.args.config.now in
    let at = c.args.at in
    let given = c.args.given in
    let request = c.as_slice.result.now in
    let asked : request ≡ account_text c.in-Some.url given.token = c.as_slice.ensures ∙ c.in_ok-request.ensures ∙ ap (account_text c.in-Some.url) c.as_str.ensures in
    tells-as (AsksService config Account at request (Ok c.in-Ok.given)) (AsksAccount config at given (Ok c.renewal_of-in-Ok.result)) _ _ c.in-Ok.ensures.told
    (λ made asks. subst (λ (r : Renewal). EndsRenewal config.account given.token given.exp made r) (sym c.renewal_of-in-Ok.ensures)
    (account_ends config at given c.in-Ok.given request c.in-Some.url config.account made c.in-Some.is asked asks))
