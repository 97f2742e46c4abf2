use Rattle.std.proofs.Common.{sym, ◌∙◌}
use Rattle.sts_core.proofs.AskedParts.{issued_within}
use Rattle.sts_core.proofs.asking.live_issued.Goals as goal

pub live-requires : goal.live-requires
live-requires c =
    issued_within c.args.state.now.content c.args.token.now c.in-Some.number (sym c.in_ok-number.ensures ∙ c.in-Some.is)

pub returns-then-live-clause-within : goal.returns-then-live-clause-within
returns-then-live-clause-within c =
    issued_within c.args.state.now.content c.args.token.now c.in-Some.number (sym c.in_ok-number.ensures ∙ c.in-Some.is)
