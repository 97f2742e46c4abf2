use Rattle.std.proofs.Common.{rules, Err, sym, subst}
use Rattle.grant_journal.specs.Places.{HasMarker}
use Rattle.service_journal.specs.Replays.{Replays}
use Rattle.service_journal.specs.declared.replay.ReplayFault.{ReplayFault}
use Rattle.service_journal.proofs.Reading.{marker_missing}
use Rattle.service_journal.proofs.replay.replay.Goals as goal

pub returns-then-not-has_marker : goal.returns-then-not-has_marker
returns-then-not-has_marker c = λ config bytes start read.
    let none : HasMarker bytes → ⊥ = search (rules, c.has_marker.ensures bytes read) in
    subst (λ (fault : ReplayFault). Replays config bytes (Err fault)) (sym c.refused.ensures) (marker_missing config bytes none)

pub returns : goal.returns
returns c = λ config bytes start read. let has : HasMarker bytes = search (rules, c.has_marker.ensures bytes read) in c.apply_records.ensures config bytes start read has
