use Rattle.std.proofs.Common.{◌∙◌, ap, sym, subst}
use Rattle.shared_renewer.specs.Counts.{AreWithin, GoOnFrom, counts_of}
use Rattle.shared_renewer.specs.Views.{Begins, Renewals}
use Rattle.shared_renewer.specs.declared.view.LinkCounts.{LinkCounts}
use Rattle.shared_renewer.proofs.Passing.{ends}
use Rattle.shared_renewer.proofs.sharing.Renewer.close.Goals as goal

pub returns-clause-client : goal.returns-clause-client
returns-clause-client g c =
    let i = c.pass.invariant.idle in
    let v = c.pass.view_is in
    let s = c.self.view_is in
    let e = ends _ _ _ _ _ c.pass.inside.seat.me.0 _ _ _ i.0 i.1 (ap (λ k. k.view.share) v ∙ c.requires.all ∙ sym (ap (λ k. k.shares) s)) c.close_with-closed.ensures.values.2 c.take-flight.ensures.value in
    (e.has.margin ∙ ap (λ k. k.client.margin) s, e.has.config ∙ ap (λ k. k.client.config) s)

pub returns-clause-before : goal.returns-clause-before
returns-clause-before g c =
    let i = c.pass.invariant.idle in
    let v = c.pass.view_is in
    let s = c.self.view_is in
    let e = ends _ _ _ _ _ c.pass.inside.seat.me.0 _ _ _ i.0 i.1 (ap (λ k. k.view.share) v ∙ c.requires.all ∙ sym (ap (λ k. k.shares) s)) c.close_with-closed.ensures.values.2 c.take-flight.ensures.value in
    e.has.before ∙ ap (λ k. g.L.Link.calls k.client.first) s

pub returns-clause-calls : goal.returns-clause-calls
returns-clause-calls g c =
    let i = c.pass.invariant.idle in
    let v = c.pass.view_is in
    let s = c.self.view_is in
    let e = ends _ _ _ _ _ c.pass.inside.seat.me.0 _ _ _ i.0 i.1 (ap (λ k. k.view.share) v ∙ c.requires.all ∙ sym (ap (λ k. k.shares) s)) c.close_with-closed.ensures.values.2 c.take-flight.ensures.value in
    subst (λ made. GoOnFrom made (g.L.Link.calls c.take-flight.result.link)) (ap (λ k. g.L.Link.calls k.client.link) s) e.has.made

pub returns-clause-seen : goal.returns-clause-seen
returns-clause-seen g c =
    let i = c.pass.invariant.idle in
    let v = c.pass.view_is in
    let s = c.self.view_is in
    let e = ends _ _ _ _ _ c.pass.inside.seat.me.0 _ _ _ i.0 i.1 (ap (λ k. k.view.share) v ∙ c.requires.all ∙ sym (ap (λ k. k.shares) s)) c.close_with-closed.ensures.values.2 c.take-flight.ensures.value in
    subst (λ (l : Renewals). Begins l c.take-flight.result.history) (ap (λ k. k.view.seen) v) e.seen

pub returns-clause-left : goal.returns-clause-left
returns-clause-left g c =
    let i = c.pass.invariant.idle in
    let v = c.pass.view_is in
    let s = c.self.view_is in
    let e = ends _ _ _ _ _ c.pass.inside.seat.me.0 _ _ _ i.0 i.1 (ap (λ k. k.view.share) v ∙ c.requires.all ∙ sym (ap (λ k. k.shares) s)) c.close_with-closed.ensures.values.2 c.take-flight.ensures.value in
    subst (λ (x : LinkCounts). AreWithin x (counts_of g.L.Link.faults g.L.Link.calls c.take-flight.result)) (ap (λ k. k.view.left) v) e.left

pub returns-clause-lost : goal.returns-clause-lost
returns-clause-lost g c =
    let i = c.pass.invariant.idle in
    let v = c.pass.view_is in
    let s = c.self.view_is in
    let e = ends _ _ _ _ _ c.pass.inside.seat.me.0 _ _ _ i.0 i.1 (ap (λ k. k.view.share) v ∙ c.requires.all ∙ sym (ap (λ k. k.shares) s)) c.close_with-closed.ensures.values.2 c.take-flight.ensures.value in
    subst (λ (x : LinkCounts). AreWithin x (counts_of g.L.Link.faults g.L.Link.calls c.take-flight.result)) (ap (λ k. k.view.lost) v) e.lost

pub returns-clause-same : goal.returns-clause-same
returns-clause-same g c =
    let i = c.pass.invariant.idle in
    let v = c.pass.view_is in
    let s = c.self.view_is in
    let e = ends _ _ _ _ _ c.pass.inside.seat.me.0 _ _ _ i.0 i.1 (ap (λ k. k.view.share) v ∙ c.requires.all ∙ sym (ap (λ k. k.shares) s)) c.close_with-closed.ensures.values.2 c.take-flight.ensures.value in
    e.has.lender ∙ ap (λ k. g.L.Link.lender k.client.link) s
