use Rattle.std.proofs.Common.{subst, sym}
use Rattle.entry_rules.specs.declared.fault.ApplyFault.{ApplyFault}
use Rattle.links.specs.declared.entry.Entry.TheVariants as entry
use Rattle.links.specs.declared.prepared.Plan.TheVariants as plan
use Rattle.entry_rules.specs.Passing.{Refuses}
use Rattle.links.specs.Licence.{first_unlicensed}
use Rattle.links.proofs.Preparing.{passes_but_memory, put_prepares, put_refused, room_planned}
use Rattle.links.proofs.recording.plan_put.Goals as goal

pub returns-in-Ok-clause-licensed : goal.returns-in-Ok-clause-licensed
returns-in-Ok-clause-licensed c =
    let content = c.args.state.now.content in
    passes_but_memory c.with_room.result (first_unlicensed content (entry.Put c.args.command))
    (put_prepares content c.args.command c.in-Ok.ready c.in-Ok.ensures.command c.in-Ok.ensures.refused).1 c.with_room.ensures.memory

pub returns-in-Ok-clause-planned : goal.returns-in-Ok-clause-planned
returns-in-Ok-clause-planned c =
    let content = c.args.state.now.content in
    room_planned content (entry.Put c.args.command) (plan.Put c.in-Ok.ready) c.with_room.result
    (put_prepares content c.args.command c.in-Ok.ready c.in-Ok.ensures.command c.in-Ok.ensures.refused).0 c.with_room.ensures.plan

pub returns-in-Err-clause-licensed : goal.returns-in-Err-clause-licensed
returns-in-Err-clause-licensed c =
    let content = c.args.state.now.content in
    subst (λ (told : ApplyFault). Refuses told (first_unlicensed content (entry.Put c.args.command))) (sym c.refusal.ensures)
    (put_refused content c.args.command c.in-Err.fault c.in-Err.ensures.refused)
