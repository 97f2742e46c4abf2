use Rattle.std.proofs.Common.{List, refl, inl, inr}
use Rattle.links.specs.declared.entry.Entry.{Entry}
use Rattle.sts_core.specs.Machine.{step, with_entry}
use Rattle.wif_base.proofs.Known.{appends-nothing, keeps-appends}
use Rattle.sts_serve.proofs.Replying.{stopped_left}
use Rattle.http_serve.proofs.Replying.{some_response, stopped_before}
use Rattle.http_serve.proofs.answered.answer_incoming.Goals as goal

pub returns-in-Err-clause-answers : goal.returns-in-Err-clause-answers
returns-in-Err-clause-answers g c = λ config journal stands.
    let s = c.in-Err.ensures in
    let reply = (step config journal c.args.incoming.now.request c.args.at).reply in (
      journal,
      stopped_left c.in-Err.stop _ _ config journal _ stands s.stays s.cause (s.any_moment config journal stands),
      stopped_before _ _ _ _ _ journal _ (some_response reply c.args.incoming.now.close) (appends-nothing _) (inl refl),
    )

pub returns-in-Err-Memory-clause-answers : goal.returns-in-Err-Memory-clause-answers
returns-in-Err-Memory-clause-answers g c = λ config journal stands.
    let a = step config journal c.args.incoming.now.request c.args.at in
    let after : List Entry = with_entry journal a.entry in (
      after,
      c.in-Ok.ensures.stands config journal stands,
      stopped_before _ _ _ _ _ after _ (some_response a.reply c.args.incoming.now.close)
          (keeps-appends _ _ (rw c.in-Err-Memory.field-0-is at c.in-Err-Memory.ensures.written)) (inr (refl, λ is. cc is)),
    )
