use Rattle.std.proofs.Common.{◌≡◌, subst}
use Rattle.std.specs.Prelude.{IfOk, option_map}
use Rattle.hmac_jws.specs.Compact.{compact}
use Rattle.links.specs.Licence.{first_unlicensed}
use Rattle.links.specs.Prepared.{PreparedEntry, planned, with_token}
use Rattle.links.specs.State.{Content}
use Rattle.links.proofs.Preparing.{passes_but_memory, signed_is}
use Rattle.links.proofs.recording.prepare.Goals as goal

pub returns-clause-licensed : goal.returns-clause-licensed
returns-clause-licensed c =
    passes_but_memory c.sign_plan.result (first_unlicensed c.args.state.now.content c.args.entry) c.in_ok-plan.ensures.licensed c.sign_plan.ensures.memory

pub returns-clause-prepared : goal.returns-clause-prepared
returns-clause-prepared c =
    let content = c.args.state.now.content in
    let p = planned c.in_ok-plan.plan in
    let same : c.plan_entry.new.state.content ≡ content = c.plan_entry.ensures.content in
    signed_is content c.args.entry p c.sign_plan.result c.in_ok-plan.ensures.planned
    (subst (λ (k : Content). IfOk c.sign_plan.result (λ (q : PreparedEntry). q ≡ with_token p (option_map (compact k.key) p.payload))) same
    c.sign_plan.ensures.signed)
