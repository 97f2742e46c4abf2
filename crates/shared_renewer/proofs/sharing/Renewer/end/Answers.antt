use Rattle.std.proofs.Common.{arith, ap, subst, sym, ◌∙◌}
use Rattle.std.specs.Prelude.{Option}
use Rattle.renewer.specs.declared.renewal.Lease.{Lease}
use Rattle.shared_renewer.specs.Passes.{IsNewest}
use Rattle.shared_renewer.proofs.Passing.{joins_on}
use Rattle.shared_renewer.proofs.Serving.{settled_joined}
use Rattle.shared_renewer.proofs.Stepping.{looks_on}
use Rattle.shared_renewer.proofs.sharing.Renewer.end.Goals as goal

pub join_seat-requires : goal.join_seat-requires
join_seat-requires g c =
    let i = c.into.invariant.idle in
    let p = c.pass.invariant.idle in
    let mine = sym (ap (λ k. k.table) c.self.view_is) in (
      ap (λ k. k.table) c.into.view_is ∙ c.requires.into ∙ mine,
      ap (λ k. k.table) c.pass.view_is ∙ c.requires.pass ∙ mine,
      p.2,
      omega (arith, c.self.invariant.0),
      joins_on _ _ _ _ _ c.into.inside.seat.me.0 _ c.pass.inside.seat.me.0 i.0 i.1 p.0 p.1,
    )

pub load-requires : goal.load-requires
load-requires g c =
    let j = c.join_seat.ensures in (
      j.0 ∙ ap (λ k. k.table) c.into.view_is ∙ c.requires.into ∙ sym (ap (λ k. k.table) c.self.view_is),
      omega (arith, c.self.invariant.0),
      looks_on _ _ _ _ _ _ c.join_seat.new.seat.me (ap (λ m. m.0.spent) j.2 ∙ c.into.invariant.idle.1),
    )

pub invariant_of-into : goal.invariant_of-into
invariant_of-into g c =
    let mine = c.into.inside.seat.me.0 in
    let theirs = c.pass.inside.seat.me.0 in
    let first = subst (λ (kept : Option Lease). IsNewest mine.seen kept) (sym c.take.ensures.value) c.into.invariant.newest in
    settled_joined c.load.result c.into.inside.seat.me c.join_seat.new.seat.me c.load.new.seat.me theirs c.into.inside.newest c.pass.inside.newest c.later.result c.into.inside.margin
    c.into.inside.shares c.pass.inside.shares c.join_seat.ensures.2 c.load.ensures.2.now c.into.invariant c.pass.invariant.shares_is
    (c.later.ensures mine.seen theirs.seen first c.pass.invariant.newest)
