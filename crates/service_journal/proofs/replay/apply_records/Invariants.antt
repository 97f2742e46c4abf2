use Rattle.std.proofs.Common.{◌≡◌, ◌≤◌, ◌<◌, ℕ, ◌+◌, ◌-◌, ◌*◌, List}
use Rattle.grant_journal.specs.Places.{HasMarker}
use Rattle.grant_journal.specs.Reading.{IsReadOf}
use Rattle.links.specs.State.{start_of}
use Rattle.service_config.specs.declared.config.Config.{Config}
use Rattle.service_journal.specs.Replays.{Leads}
use Rattle.service_journal.proofs.replay.apply_records.Given as goal

abbrev pub invariant-records : goal.invariant-records
invariant-records l = record {
  within : l.at < 67108864;
  count : 5 * l.state.content.count + 8 ≤ l.at;
  leads : (config : Config) (bytes : List ℕ) → l.fn.state.content ≡ start_of config → IsReadOf bytes l.file → HasMarker bytes
      → Leads config bytes l.state.content l.at;
}

abbrev pub decreases-records : goal.decreases-records
decreases-records l = 67108864 - l.at
