use Rattle.std.proofs.Common.{◌∙◌, refl}
use Rattle.std.proofs.lemmas.Result.{IfOk-weaker}
use Rattle.links.proofs.Journals.{reached_kept}
use Rattle.sts_core.proofs.Agrees.{check_is}
use Rattle.sts_core.proofs.checking.decide_token.Goals as goal

pub returns : goal.returns
returns c =
    let content = c.args.state.now.content in
    let kept = reached_kept content c.has_a_lawful_journal.ensures.reached in
    IfOk-weaker c.decide.result _ _
    (λ decision is. is
    ∙ rw (c.view.ensures, c.key.ensures.key, c.issuer-issuer.ensures) refl
    ∙ check_is content c.args.token.now c.args.permission.now c.args.resource.now c.args.now kept c.has_a_lawful_journal.ensures.few)
    c.decide.ensures
