use Rattle.std.proofs.Common.{◌≡◌, ◌∙◌, [], ap, refl, sym, subst}
use Rattle.std.specs.Prelude.{Result, IfOk}
use Rattle.std.specs.declared.alloc.AllocError.{AllocError}
use Rattle.shared_renewer.specs.Counts.{HasFacts, counts_of}
use Rattle.shared_renewer.specs.Looks.{AreOfNewest, ending_by}
use Rattle.shared_renewer.specs.Turns.{IsReady, SeatState}
use Rattle.shared_renewer.specs.Views.{after_turn}
use Rattle.shared_renewer.specs.declared.looking.Copies.{Copies}
use Rattle.shared_renewer.specs.declared.turns.Ending.{Ending}
use Rattle.shared_renewer.specs.declared.turns.Ending.TheVariants.{Seen, Unseen}
use Rattle.shared_renewer.proofs.looking.finish_look.Goals as goal

pub give_back-requires-clause-client : goal.give_back-requires-clause-client
give_back-requires-clause-client g c =
    let k = g.L.Link in
    let t = c.requires.client in
    let e = c.copy_newest-copies.ensures in (
      t.0.history,
      t.0,
      subst (λ (m : SeatState g.row.L.Denot). IsReady (counts_of k.faults k.calls) (HasFacts k.calls k.lender) m t.0.history t.0) (sym e.same.2) t.1,
      (e.copied t.0 t.1).1,
    )

pub returns-in-Ok-clause-looked : goal.returns-in-Ok-clause-looked
returns-in-Ok-clause-looked g c = λ client ready.
    let k = g.L.Link in
    let e = c.copy_newest-copies.ensures in
    let counts = counts_of k.faults k.calls in
    let now = subst (λ (m : SeatState g.row.L.Denot). IsReady counts (HasFacts k.calls k.lender) m client.history client) (sym e.same.2) ready in
    let ends : c.ending_by.result ≡ Seen = c.ending_by.ensures ∙ ap (λ (r : Result Copies AllocError). ending_by r) c.in-Ok.is in
    record {
      now = c.give_back.ensures.gave client.history client now
          ∙ ap (λ (x : Ending). (after_turn counts x client c.copy_newest-copies.new.seat.me.0, [])) ends
          ∙ ap (λ (m : SeatState g.row.L.Denot). (after_turn counts Seen client m.0, [])) e.same.2;
      copies = subst (λ (r : Result Copies AllocError). IfOk r (AreOfNewest client.history)) c.in-Ok.is (e.copied client ready).0;
      fault = tt;
    }

pub returns-in-Err-clause-looked : goal.returns-in-Err-clause-looked
returns-in-Err-clause-looked g c = λ client ready.
    let k = g.L.Link in
    let e = c.copy_newest-copies.ensures in
    let counts = counts_of k.faults k.calls in
    let now = subst (λ (m : SeatState g.row.L.Denot). IsReady counts (HasFacts k.calls k.lender) m client.history client) (sym e.same.2) ready in
    let ends : c.ending_by.result ≡ Unseen = c.ending_by.ensures ∙ ap (λ (r : Result Copies AllocError). ending_by r) c.in-Err.is in
    record {
      now = c.give_back.ensures.gave client.history client now
          ∙ ap (λ (x : Ending). (after_turn counts x client c.copy_newest-copies.new.seat.me.0, [])) ends
          ∙ ap (λ (m : SeatState g.row.L.Denot). (after_turn counts Unseen client m.0, [])) e.same.2;
      copies = tt;
      fault = refl;
    }
