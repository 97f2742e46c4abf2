use Rattle.std.proofs.Common.{inr}
use Rattle.std.specs.Prelude.{Err}
use Rattle.client_link.specs.declared.target.LinkCall.{LinkCall}
use Rattle.client_proto.specs.declared.reply.ReadReply.TheVariants as reading
use Rattle.renewer.specs.Steps.{AsksService}
use Rattle.renewer.specs.declared.fault.LeaseFault.TheVariants.{Refused, BadReply}
use Rattle.renewer.proofs.Stepping.{ends_bad, ends_refused, reading_as, tells-added}
use Rattle.renewer.proofs.steps.ask_service.Goals as goal

pub returns-in-Ok-Refused-clause-told : goal.returns-in-Ok-Refused-clause-told
returns-in-Ok-Refused-clause-told g c =
    let config = c.args.config.now in
    let reply = c.in_ok-reply.reply in
    let call : LinkCall = record { target = c.args.target; request = c.args.request.now; reply = reply } in
    let is = reading_as c.args.target c.args.at c.as_slice.result.now reply c.in-Ok-Refused.field-0 (reading.Refused c.in-Ok-Refused.field-0-0) c.as_slice.ensures c.in-Ok-Refused.field-0-is c.in-Ok-Refused.ensures in
    tells-added (AsksService config c.args.target c.args.at c.args.request.now (Err (Refused reply))) _ _ call c.in_ok-reply.ensures.told
    (ends_refused config c.args.at c.in-Ok-Refused.field-0-0 call c.requires.target is)

pub returns-in-Ok-Bad-clause-told : goal.returns-in-Ok-Bad-clause-told
returns-in-Ok-Bad-clause-told g c =
    let config = c.args.config.now in
    let reply = c.in_ok-reply.reply in
    let call : LinkCall = record { target = c.args.target; request = c.args.request.now; reply = reply } in
    let is = reading_as c.args.target c.args.at c.as_slice.result.now reply c.in-Ok-Bad.field-0 reading.Bad c.as_slice.ensures c.in-Ok-Bad.field-0-is c.in-Ok-Bad.ensures in
    tells-added (AsksService config c.args.target c.args.at c.args.request.now (Err (BadReply reply))) _ _ call c.in_ok-reply.ensures.told
    (ends_bad config c.args.at call c.requires.target is)

pub returns-in-Ok-Bad-clause-cause : goal.returns-in-Ok-Bad-clause-cause
returns-in-Ok-Bad-clause-cause g c =
    let is = reading_as c.args.target c.args.at c.as_slice.result.now c.in_ok-reply.reply c.in-Ok-Bad.field-0 reading.Bad c.as_slice.ensures c.in-Ok-Bad.field-0-is c.in-Ok-Bad.ensures in
    record { later = c.in_ok-reply.ensures.count; stopped = (c.args.target, inr (c.requires.target, is)) }
