use Rattle.std.proofs.Common.{◌+◌, inl, inr, sym, ◌∙◌, arith}
use Rattle.wif_base.specs.declared.mem_disk.DiskCall.TheVariants.{Wrote, Synced}
use Rattle.wif_base.proofs.Replays.{inside-last, found_first, missed_first}
use Rattle.wif_base.proofs.mem_disk.is_pending.Goals as goal
use Rattle.wif_base.proofs.mem_disk.is_pending.Goals.{else-at-place-via-then-at-place+else-place-at, else-at-place-via-else-at-place}

pub returns-in-Synced : goal.returns-in-Synced
returns-in-Synced c = sym (c.loop-k.invariant ∙ inside-last c.args.calls.now c.loop-k.k c.args.place Synced c.loop-k-test.true c.loop-k.auto.k c.in-Synced.is)

pub returns-then-place-at : goal.returns-then-place-at
returns-then-place-at c =
    sym (c.loop-k.invariant
    ∙ inside-last c.args.calls.now c.loop-k.k c.args.place (Wrote c.in-Wrote.at c.in-Wrote.size) c.loop-k-test.true c.loop-k.auto.k c.in-Wrote.is
    ∙ found_first c.in-Wrote.at (c.in-Wrote.at + c.in-Wrote.size) c.args.place _ c.if-at-place.true (omega (arith, c.if-at-place.true, c.if-place-at.true)))

pub loop-k-preserved : goal.loop-k-preserved
loop-k-preserved c =
    c.loop-k.invariant
    ∙ inside-last c.args.calls.now c.loop-k.k c.args.place (Wrote c.in-Wrote.at c.in-Wrote.size) c.loop-k-test.true c.loop-k.auto.k c.in-Wrote.is
    ∙ missed_first c.in-Wrote.at (c.in-Wrote.at + c.in-Wrote.size) c.args.place _ (elim c.else-at-place.branch [
      | else-at-place-via-then-at-place+else-place-at w ↦ inr (omega (arith, w.if-at-place, w.if-place-at))
      | else-at-place-via-else-at-place w ↦ inl (omega (arith, w.if-at-place))
    ])
