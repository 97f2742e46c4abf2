use Rattle.std.proofs.Common.{◌≡◌, ◌≤◌, ◌+◌, ◌-◌, ◌*◌, List, length, false}
use Rattle.service_config.specs.declared.config.Config.{Config}
use Rattle.links.specs.declared.entry.Entry.{Entry}
use Rattle.wif_base.specs.Carried.{input_limit}
use Rattle.sts_core.specs.State.{Stands}
use Rattle.sts_serve.proofs.Runs.{Underway}
use Rattle.sts_serve.proofs.script.run_script.Given as goal

abbrev pub invariant-frames : goal.invariant-frames
invariant-frames g l = record {
  run : (config : Config) (journal : List Entry) → Stands l.fn.sts config journal
      → Underway config journal l.fn.sts l.sts (g.I.Source.left l.fn.input) (g.I.Source.left l.input) (g.O.Sink.taken l.fn.output) (g.O.Sink.taken l.output) l.carry l.used;
  broken : l.fn.sts.journal.broken ≡ false → l.sts.journal.broken ≡ false;
  within : l.carry.taken ≤ input_limit;
  place : l.used + length l.carry.unused ≡ l.carry.taken;
  source : g.I.Source.faults l.fn.input ≤ g.I.Source.faults l.input;
  sink : g.O.Sink.faults l.fn.output ≤ g.O.Sink.faults l.output;
  disk : l.fn.sts.journal.faults ≤ l.sts.journal.faults;
  same_source : g.I.Source.lender l.input ≡ g.I.Source.lender l.fn.input;
  same_sink : g.O.Sink.lender l.output ≡ g.O.Sink.lender l.fn.output;
  same_disk : l.sts.journal.lender ≡ l.fn.sts.journal.lender;
}

abbrev pub decreases-frames : goal.decreases-frames
decreases-frames g l = 2 * (input_limit - l.carry.taken) + length l.carry.unused
