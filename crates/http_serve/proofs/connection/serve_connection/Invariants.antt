use Rattle.std.proofs.Common.{◌≡◌, ◌≤◌, ◌+◌, ◌-◌, ◌*◌, List, length}
use Rattle.service_config.specs.declared.config.Config.{Config}
use Rattle.links.specs.declared.entry.Entry.{Entry}
use Rattle.wif_base.specs.Carried.{input_limit}
use Rattle.sts_core.specs.State.{Stands}
use Rattle.http_serve.proofs.Runs.{Underway}
use Rattle.http_serve.proofs.connection.serve_connection.Given as goal

abbrev pub invariant-requests : goal.invariant-requests
invariant-requests g l = record {
  run : (config : Config) (journal : List Entry) → Stands l.fn.sts config journal
      → Underway config journal l.fn.sts l.sts (g.I.Source.left l.fn.input) (g.I.Source.left l.input) (g.O.Sink.taken l.fn.output) (g.O.Sink.taken l.output)
      (g.C.Clock.moments l.fn.clock) (g.C.Clock.moments l.clock) l.buffer.unused l.buffer.taken;
  whole : l.sts.journal.broken ≡ l.fn.sts.journal.broken;
  within : l.buffer.taken ≤ input_limit;
  source : g.I.Source.faults l.fn.input ≤ g.I.Source.faults l.input;
  sink : g.O.Sink.faults l.fn.output ≤ g.O.Sink.faults l.output;
  ticks : g.C.Clock.faults l.fn.clock ≤ g.C.Clock.faults l.clock;
  disk : l.fn.sts.journal.faults ≤ l.sts.journal.faults;
  same_source : g.I.Source.lender l.input ≡ g.I.Source.lender l.fn.input;
  same_sink : g.O.Sink.lender l.output ≡ g.O.Sink.lender l.fn.output;
  same_clock : g.C.Clock.lender l.clock ≡ g.C.Clock.lender l.fn.clock;
  same_disk : l.sts.journal.lender ≡ l.fn.sts.journal.lender;
}

abbrev pub decreases-requests : goal.decreases-requests
decreases-requests g l = 2 * (input_limit - l.buffer.taken) + length l.buffer.unused
