use Rattle.std.proofs.Common.{◌≡◌, subst}
use Rattle.std.specs.Prelude.{Result, IfOk}
use Rattle.entry_rules.specs.declared.fault.ApplyFault.{ApplyFault}
use Rattle.entry_rules.specs.Passing.{Passes}
use Rattle.links.specs.declared.tokens.Issued.{Issued}
use Rattle.links.specs.declared.prepared.Plan.TheVariants as plan
use Rattle.links.specs.Licence.{first_unlicensed, planned_of}
use Rattle.links.specs.Prepared.{with_link}
use Rattle.links.proofs.Preparing.{passes_but_memory, room_planned}
use Rattle.links.proofs.recording.plan_link.Goals as goal

pub returns-in-Ok-clause-licensed : goal.returns-in-Ok-clause-licensed
returns-in-Ok-clause-licensed c =
    let rule = first_unlicensed c.args.state.now.content c.args.entry in
    passes_but_memory c.with_room.result rule (subst (λ (r : Result Issued ApplyFault). Passes r rule) c.in-Ok.is c.requires.licensed)
    c.with_room.ensures.memory

pub returns-in-Ok-clause-planned : goal.returns-in-Ok-clause-planned
returns-in-Ok-clause-planned c =
    let content = c.args.state.now.content in
    let e = c.args.entry in
    let issued : with_link e c.in-Ok.issued ≡ planned_of content e =
    subst (λ (r : Result Issued ApplyFault). IfOk r (λ (i : Issued). with_link e i ≡ planned_of content e)) c.in-Ok.is c.requires.issued in
    room_planned content e (plan.Link e c.in-Ok.issued) c.with_room.result issued c.with_room.ensures.plan
