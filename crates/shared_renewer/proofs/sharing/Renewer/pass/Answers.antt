use Rattle.std.proofs.Common.{arith, ap, sym, subst, ◌∙◌, ◌≤◌, ℕ}
use Rattle.shared_renewer.proofs.Passing.{splits_on}
use Rattle.shared_renewer.proofs.sharing.Renewer.pass.Goals as goal

pub split_seat-seat-requires : goal.split_seat-seat-requires
split_seat-seat-requires g c =
    let i = c.from.invariant.idle in
    let v = c.from.view_is in (
      ap (λ k. k.table) v ∙ c.requires.table ∙ sym (ap (λ k. k.table) c.self.view_is),
      omega (arith, c.self.invariant.0),
      splits_on _ _ _ _ _ c.from.inside.seat.me.0 i.0 i.1 (subst (λ (n : ℕ). 2 ≤ n) (sym (ap (λ k. k.view.share) v)) c.requires.two),
    )
