use Rattle.std.proofs.Common.{◌≡◌, ap, ◌∙◌}
use Rattle.std.proofs.lemmas.Result.{IfOk-weaker}
use Rattle.generated_work.specs.Run.{newest_token, token_behind}
use Rattle.generated_work.proofs.LastToken.{newest_behind}
use Rattle.generated_work.proofs.newest.newest_token.Goals as goal

pub returns : goal.returns
returns g c = λ journal stands.
    IfOk-weaker c.newest_of.result (λ token. token ≡ newest_token c.state.result.now.content) (λ token. token ≡ token_behind journal)
    (λ token e. e ∙ (ap newest_token c.state.ensures ∙ newest_behind c.args.sts.now journal stands)) c.newest_of.ensures
