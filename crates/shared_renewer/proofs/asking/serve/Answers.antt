use Rattle.std.proofs.Common.{◌∙◌, [], ap}
use Rattle.shared_renewer.specs.Asks.{ending_of}
use Rattle.shared_renewer.specs.Counts.{counts_of}
use Rattle.shared_renewer.specs.Views.{after_turn}
use Rattle.shared_renewer.specs.declared.turns.Ending.{Ending}
use Rattle.shared_renewer.specs.declared.view.View.{View}
use Rattle.shared_renewer.proofs.Serving.{asked_has, brings_of}
use Rattle.shared_renewer.proofs.asking.serve.Goals as goal

pub give_back-requires-clause-client : goal.give_back-requires-clause-client
give_back-requires-clause-client g c =
    let t = c.requires.client in
    let a = c.ask-answer.ensures.asked t.0 t.1 in
    (t.0.history, a.0, a.1.ready, a.3)

pub returns-clause-served : goal.returns-clause-served
returns-clause-served g c = λ old ready.
    let k = g.L.Link in
    let a = c.ask-answer.ensures.asked old ready in
    let counts = counts_of k.faults k.calls in (
      a.0,
      record {
        now = c.give_back.ensures.gave old.history a.0 a.1.ready
            ∙ ap (λ (e : Ending). (after_turn counts e a.0 c.ask-answer.new.seat.me.0, [])) c.ending_of.ensures
            ∙ ap (λ (v : View). (after_turn counts (ending_of c.settle-outcome.result) a.0 v, [])) a.1.view;
        has = asked_has k.faults k.calls k.lender c.args.at c.args.seat.now.me c.ask-answer.new.seat.me old a.0 c.ask-answer.result.answer a.1;
        rises = a.1.rises;
        brings = brings_of k.faults k.calls k.lender c.args.at old a.0 c.ask-answer.result.answer c.ask-answer.result.newest c.settle-outcome.result a.1.answers a.2 c.settle-outcome.ensures;
      },
    )
