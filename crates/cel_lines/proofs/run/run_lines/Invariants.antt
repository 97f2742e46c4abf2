use Rattle.std.proofs.Common.{◌≡◌, ◌≤◌, ◌+◌, ◌-◌, ◌*◌, length, take}
use Rattle.wif_base.specs.Carried.{input_limit}
use Rattle.cel_lines.specs.Lines.{HasNoFeed}
use Rattle.cel_lines.proofs.Runs.{SoFar}
use Rattle.cel_lines.proofs.run.run_lines.Given as goal

abbrev pub invariant-lines : goal.invariant-lines
invariant-lines g l = record {
  so_far : SoFar (g.I.Source.left l.fn.input) (g.I.Source.left l.input) (g.O.Sink.taken l.fn.output) (g.O.Sink.taken l.output) l.carry l.answers.items;
  within : l.carry.taken ≤ input_limit;
  looked : l.looked ≤ length l.carry.unused;
  clear : HasNoFeed (take l.looked l.carry.unused);
  source : g.I.Source.faults l.fn.input ≤ g.I.Source.faults l.input;
  sink : g.O.Sink.faults l.fn.output ≤ g.O.Sink.faults l.output;
  same_source : g.I.Source.lender l.input ≡ g.I.Source.lender l.fn.input;
  same_sink : g.O.Sink.lender l.output ≡ g.O.Sink.lender l.fn.output;
}

abbrev pub decreases-lines : goal.decreases-lines
decreases-lines g l = 2 * (input_limit - l.carry.taken) + length l.carry.unused
