use Rattle.std.proofs.Common.{List, refl, inl, inr}
use Rattle.links.specs.declared.entry.Entry.{Entry}
use Rattle.sts_core.specs.Machine.{with_entry}
use Rattle.sts_serve.specs.Frames.{answer}
use Rattle.sts_serve.proofs.Replying.{some_text, stopped_before, stopped_left}
use Rattle.sts_serve.proofs.answered.answer_frame.Goals as goal

pub returns-in-Err-clause-answers : goal.returns-in-Err-clause-answers
returns-in-Err-clause-answers g c = λ config journal stands.
    let s = c.in-Err.ensures in (
      journal,
      stopped_left c.in-Err.stop _ _ config journal _ stands s.stays s.cause (s.any_moment config journal stands),
      stopped_before _ _ _ _ journal _ (some_text (answer config journal c.args.frame).reply) (inl refl),
    )

pub returns-in-Err-reply_bytes-clause-answers : goal.returns-in-Err-reply_bytes-clause-answers
returns-in-Err-reply_bytes-clause-answers g c = λ config journal stands.
    let after : List Entry = with_entry journal (answer config journal c.args.frame).entry in
    (after, c.in-Ok.ensures.stands config journal stands, stopped_before _ _ _ _ after _ (some_text (answer config journal c.args.frame).reply) (inr (refl, λ is. cc is)))
