use Rattle.std.proofs.Common.{sym, ◌∙◌}
use Rattle.sts_core.proofs.Lifetimes.{none_read, other_read, seconds_said}
use Rattle.sts_core.proofs.generating.seconds_of.Goals as goal

pub returns-in_default : goal.returns-in_default
returns-in_default c =
    sym (none_read c.args.digits.now c.parse.result (sym c.ok.ensures.value ∙ c.in_default.is) c.parse.ensures.value.0)

pub returns-then-branch : goal.returns-then-branch
returns-then-branch c = sym (seconds_said c.args.digits.now c.in-Some.seconds (sym c.in_ok-is_lifetime.ensures ∙ c.if-branch.true))

pub returns : goal.returns
returns c =
    sym (other_read c.args.digits.now c.parse.result c.in-Some.seconds (sym c.ok.ensures.value ∙ c.in-Some.is)
    (sym c.in_ok-is_lifetime.ensures ∙ c.if-branch.false) c.parse.ensures.value.0)
