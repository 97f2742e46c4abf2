use Rattle.std.proofs.Common.{◌≡◌, ◌∙◌, ◌∷◌, ℕ, List, ap, sym, subst, get_or, refl}
use Rattle.atomic_table.specs.Table.{rest}
use Rattle.renewer.specs.Flights.{Flown}
use Rattle.renewer.specs.Leases.{IsAsked}
use Rattle.shared_renewer.specs.Asks.{IsAskedFor}
use Rattle.shared_renewer.specs.Counts.{HasFacts, counts_of}
use Rattle.shared_renewer.specs.Turns.{IsReady}
use Rattle.shared_renewer.proofs.Serving.{IsKeptBy, answers_of, counts_rise, ready_on}
use Rattle.shared_renewer.proofs.asking.ask.Goals as goal

pub slot_mut-flight-requires : goal.slot_mut-flight-requires
slot_mut-flight-requires g c = let t = c.requires.client in (c.requires.table, (t.0, t.1.carried ∙ ap (λ l. (0, t.0) ∷ rest l) (sym t.1.carried)))

pub returns-clause-asked : goal.returns-clause-asked
returns-clause-asked g c = λ old ready.
    let k = g.L.Link in
    let now = c.slot_mut-flight.result.now in
    let is : now ≡ old = ap (λ (l : List (ℕ × Flown g.row.L.Denot)). (get_or l 0 (0, old)).1) (sym c.slot_mut-flight.ensures.value ∙ ready.carried) in
    let r : IsReady (counts_of k.faults k.calls) (HasFacts k.calls k.lender) c.args.seat.now.me now.history now =
    subst (λ z. IsReady (counts_of k.faults k.calls) (HasFacts k.calls k.lender) c.args.seat.now.me z.history z) (sym is) ready in
    let e = c.lease-answer.ensures in
    let new = c.lease-answer.new.self in
    let answer = c.lease-answer.result in
    let kept : IsKeptBy k.faults k.calls k.lender now new = record { config = e.kept.0; margin = e.kept.1; first = e.kept.2; count = e.count; same = e.same } in
    let P = IsAsked now.config now.margin c.args.at now.history new.history answer in (
      new,
      subst (λ z. IsAskedFor k.faults k.calls k.lender c.args.at c.args.seat.now.me (c.args.seat.now.me.0, (0, new) ∷ rest c.args.seat.now.me.1) z new answer) is record {
        view = refl;
        ready = ready_on k.faults k.calls k.lender P c.args.at c.args.seat.now.me now new r kept e.told e.recorded c.word_of-word.ensures.sound.0 c.word_of-word.ensures.sound.1;
        rises = counts_rise k.faults k.calls k.lender P now new kept e.told;
        answers = answers_of k.faults k.calls k.lender c.args.at now new answer kept e.leased e.recorded e.faults e.link_fault e.refused e.bad_reply e.exhausted e.told;
      },
      c.newest_of-newest.ensures,
      c.word_of-word.ensures.word,
    )
