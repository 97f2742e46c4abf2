use Rattle.std.proofs.Common.{◌++◌, [], ◌∷◌, sym, ◌∙◌, ap, subst, arith}
use Rattle.std.specs.Prelude.{Ok, Err}
use Rattle.renewer.specs.Flights.{Flown}
use Rattle.renewer.specs.Leases.{IsAsked, TellsMore}
use Rattle.renewer.specs.Steps.{AsksRenewal}
use Rattle.renewer.proofs.Leasing.{HasNeed, asked_in_vain, asked_nothing, asked_renewal, leased_recorded, need_none, need_some, only_memory, short_recorded, sound_recorded, sound_still}
use Rattle.renewer.proofs.Telling.{tells-as, tells-nothing}
use Rattle.renewer.proofs.flight.Flight.lease.Goals as goal
use Rattle.renewer.proofs.flight.Flight.lease.Goals.{in-Some+else-at-self+else-count-eq-MOST_RENEWALS, in_default}

pub returns-then-at-self-clause-told : goal.returns-then-at-self-clause-told
returns-then-at-self-clause-told g c =
    let self = c.args.self.now in
    tells-nothing (IsAsked self.config self.margin c.args.at self.history self.history c.lease_of.result) _
    (asked_nothing self.config self.margin c.args.at self.history c.lease_of.result
    (λ reply is. let wrong = only_memory c.lease_of.result c.lease_of.ensures.memory _ is in cc wrong)
    (λ reply is. let wrong = only_memory c.lease_of.result c.lease_of.ensures.memory _ is in cc wrong))

pub returns-then-count-eq-MOST_RENEWALS-clause-told : goal.returns-then-count-eq-MOST_RENEWALS-clause-told
returns-then-count-eq-MOST_RENEWALS-clause-told g c =
    let self = c.args.self.now in
    tells-nothing (IsAsked self.config self.margin c.args.at self.history self.history _) _
    (asked_nothing self.config self.margin c.args.at self.history _ (λ reply is. cc is) (λ reply is. cc is))

pub invariant_of-self : goal.invariant_of-self
invariant_of-self g c =
    let self = c.self.inside in
    let need : HasNeed self.margin c.args.at self.history.items = elim c.match-last.branch [
      | in-Some+else-at-self+else-count-eq-MOST_RENEWALS w ↦ need_some self.margin c.args.at self.history.items c.deref.result.now w.in-Some.renewal.now c.deref.ensures.value
          w.in-Some.ensures.value w.if-at-self.false (λ full. w.if-count-eq-MOST_RENEWALS.false (omega (arith, c.len-count.ensures, full, c.self.inside.history.ok.0))) c.self.invariant.most
      | in_default w ↦ need_none self.margin c.args.at self.history.items c.deref.result.now c.deref.ensures.value w.in_default.ensures.value
    ] in
    sound_recorded self.config self.margin c.args.at self.history.items c.record.new.history.items c.in-Ok.renewal c.record.result _ _ _
    c.self.invariant need c.in-Ok.ensures.asked c.in-Ok.ensures.told c.record.ensures

pub invariant_of-self-in-Err : goal.invariant_of-self-in-Err
invariant_of-self-in-Err g c =
    let self = c.self.inside in
    sound_still self.config self.margin c.args.at self.history.items c.in-Err.fault _ _ _ c.self.invariant c.in-Err.ensures.told

pub returns-in-Ok-clause-leased : goal.returns-in-Ok-clause-leased
returns-in-Ok-clause-leased g c =
    leased_recorded c.self.inside.margin c.args.at c.self.inside.history.items c.record.new.history.items c.in-Ok.renewal c.record.result c.record.ensures c.in-Ok.ensures.asked

pub returns-in-Ok-clause-short_lived : goal.returns-in-Ok-clause-short_lived
returns-in-Ok-clause-short_lived g c = λ renewal grew over.
    short_recorded c.args.at c.self.inside.history.items c.record.new.history.items c.in-Ok.renewal renewal c.record.result c.record.ensures
    (grew ∙ ap (λ (v : Flown _). v.history ++ renewal ∷ []) (sym c.self.view_is)) over

pub returns-in-Ok-clause-told : goal.returns-in-Ok-clause-told
returns-in-Ok-clause-told g c =
    let self = c.self.inside in
    let need : HasNeed self.margin c.args.at self.history.items = elim c.match-last.branch [
      | in-Some+else-at-self+else-count-eq-MOST_RENEWALS w ↦ need_some self.margin c.args.at self.history.items c.deref.result.now w.in-Some.renewal.now c.deref.ensures.value
          w.in-Some.ensures.value w.if-at-self.false (λ full. w.if-count-eq-MOST_RENEWALS.false (omega (arith, c.len-count.ensures, full, c.self.inside.history.ok.0))) c.self.invariant.most
      | in_default w ↦ need_none self.margin c.args.at self.history.items c.deref.result.now c.deref.ensures.value w.in_default.ensures.value
    ] in
    subst (λ (v : Flown _). TellsMore (g.L.Link.calls v.link) (g.L.Link.calls c.renew.new.link) (IsAsked v.config v.margin c.args.at v.history c.record.new.history.items c.record.result)) c.self.view_is
    (tells-as (AsksRenewal self.config c.args.at (Ok c.in-Ok.renewal)) (IsAsked self.config self.margin c.args.at self.history.items c.record.new.history.items c.record.result) _ _ c.in-Ok.ensures.told
    (λ made is. asked_renewal self.config self.margin c.args.at self.history.items c.record.new.history.items c.in-Ok.renewal c.record.result made need c.record.ensures is))

pub returns-in-Err-clause-told : goal.returns-in-Err-clause-told
returns-in-Err-clause-told g c =
    let self = c.self.inside in
    let need : HasNeed self.margin c.args.at self.history.items = elim c.match-last.branch [
      | in-Some+else-at-self+else-count-eq-MOST_RENEWALS w ↦ need_some self.margin c.args.at self.history.items c.deref.result.now w.in-Some.renewal.now c.deref.ensures.value
          w.in-Some.ensures.value w.if-at-self.false (λ full. w.if-count-eq-MOST_RENEWALS.false (omega (arith, c.len-count.ensures, full, c.self.inside.history.ok.0))) c.self.invariant.most
      | in_default w ↦ need_none self.margin c.args.at self.history.items c.deref.result.now c.deref.ensures.value w.in_default.ensures.value
    ] in
    subst (λ (v : Flown _). TellsMore (g.L.Link.calls v.link) (g.L.Link.calls c.renew.new.link) (IsAsked v.config v.margin c.args.at v.history self.history.items (Err c.in-Err.fault))) c.self.view_is
    (tells-as (AsksRenewal self.config c.args.at (Err c.in-Err.fault)) (IsAsked self.config self.margin c.args.at self.history.items self.history.items (Err c.in-Err.fault)) _ _ c.in-Err.ensures.told
    (λ made is. asked_in_vain self.config self.margin c.args.at self.history.items c.in-Err.fault made need is))
