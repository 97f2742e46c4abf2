use Rattle.std.proofs.Common.{◌≡◌, ◌∙◌, sym, ap, subst}
use Rattle.std.proofs.lemmas.Result.{IfOk-weaker}
use Rattle.hmac_jws.specs.Verified.{MacGood, payload_of}
use Rattle.links.proofs.issued.told_number.Goals as goal

pub returns-in-Ok : goal.returns-in-Ok
returns-in-Ok c = IfOk-weaker c.number_in.result _ _
    (λ told tells payload n bytes low same jti.
    let read : c.in-Ok.verified.payload ≡ payload =
    c.in-Ok.ensures.verified.1 ∙ ap payload_of same ∙ c.signed_text_verifies.ensures.payload c.args.key.now payload bytes in
    tells n low (cc (jti, read, c.as_slice.ensures)))
    c.number_in.ensures

pub returns-in-Err : goal.returns-in-Err
returns-in-Err c = IfOk-weaker c.none_after.result _ _
    (λ told other payload n bytes low same jti.
    let good : MacGood c.args.key.now c.args.text.now =
    subst (λ text. MacGood c.args.key.now text) (sym same) (c.signed_text_verifies.ensures.good c.args.key.now payload bytes) in
    absurd (other (c.in-Err.ensures.good good)))
    c.none_after.ensures.memory
