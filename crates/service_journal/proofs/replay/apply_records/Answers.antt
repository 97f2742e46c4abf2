use Rattle.std.proofs.Common.{rules, ◌≡◌, ◌<◌, ◌+◌, Err, sym, ap, subst, arith}
use Rattle.grant_journal.specs.Places.{PassesLimit}
use Rattle.links.specs.State.{Content}
use Rattle.service_journal.specs.Replays.{Replays}
use Rattle.service_journal.specs.declared.replay.ReplayFault.{ReplayFault}
use Rattle.service_journal.proofs.Reading.{leads_none, closes, breaks, text_refused, passes, leads_on}
use Rattle.service_journal.proofs.replay.apply_records.Goals as goal

pub records-init : goal.records-init
records-init c = record {
  within = omega arith;
  count = omega (arith, c.requires);
  leads = λ config bytes start read has. leads_none config bytes c.args.state.content start has;
}

pub returns-in-Closed : goal.returns-in-Closed
returns-in-Closed c = λ config bytes start read has.
    closes config bytes c.records.state.content c.records.at (c.records.invariant.leads config bytes start read has) (c.in-Closed.ensures.stands bytes read)

pub returns-in-Bad : goal.returns-in-Bad
returns-in-Bad c = λ config bytes start read has.
    let leads = c.records.invariant.leads config bytes start read has in
    subst (λ (fault : ReplayFault). Replays config bytes (Err fault)) (sym c.refused.ensures)
    (breaks config bytes c.records.state.content c.records.at leads c.in-Bad.rule (c.in-Bad.ensures.stands bytes read))

pub returns-in-Err : goal.returns-in-Err
returns-in-Err c = λ config bytes start read has.
    let there = c.in-Text.ensures.stands bytes read in
    text_refused config bytes c.records.state.content c.records.at (c.records.invariant.leads config bytes start read has)
    c.in-Text.text.now there.0 there.1 c.apply_text.new.state.content c.in-Err.fault c.in-Err.ensures

pub returns-then-passes_limit : goal.returns-then-passes_limit
returns-then-passes_limit c = λ config bytes start read has.
    let there = c.in-Text.ensures.stands bytes read in
    let applied = c.in_default.ensures in
    let past : PassesLimit c.in-Text.next = search rules in
    let leads = c.records.invariant.leads config bytes start read has in
    subst (λ (fault : ReplayFault). Replays config bytes (Err fault)) (sym c.refused-then-passes_limit.ensures)
    (
    passes config bytes c.records.state.content c.records.at leads c.in-Text.text.now there.0 there.1 applied.0 applied.1 applied.2
    (omega (arith, past, c.in-Text.ensures.next))
    )

pub records-preserved : goal.records-preserved
records-preserved c =
    let applied = c.in_default.ensures in
    let room : c.in-Text.next < 67108864 = search rules in
    let more : c.apply_text.new.state.content.count ≡ c.records.state.content.count + 1 = ap (λ (k : Content). k.count) applied.3 in
    record {
      within = room;
      count = omega (arith, c.records.invariant.count, c.in-Text.ensures.next, more);
      leads = λ config bytes start read has.
          let there = c.in-Text.ensures.stands bytes read in
          leads_on config bytes c.records.state.content c.records.at (c.records.invariant.leads config bytes start read has)
          c.in-Text.text.now there.0 there.1 applied.0 applied.1 applied.2 c.apply_text.new.state.content c.in-Text.next applied.3 c.in-Text.ensures.next
          (omega (arith, room));
    }
