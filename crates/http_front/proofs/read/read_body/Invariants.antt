use Rattle.std.proofs.Common.{◌≡◌, ◌≤◌, ◌-◌, length}
use Rattle.wif_base.specs.Carried.{input_limit}
use Rattle.http_front.proofs.Takings.{Taken}
use Rattle.http_front.proofs.read.read_body.Given as goal

abbrev pub invariant-more : goal.invariant-more
invariant-more g l = record {
  taken : Taken (g.I.Source.left l.fn.input) (g.I.Source.left l.input) l.fn.buffer l.buffer;
  within : l.buffer.taken ≤ input_limit;
  longer : length l.fn.buffer.unused ≤ length l.buffer.unused;
  source : g.I.Source.faults l.fn.input ≤ g.I.Source.faults l.input;
  same_source : g.I.Source.lender l.input ≡ g.I.Source.lender l.fn.input;
}

abbrev pub decreases-more : goal.decreases-more
decreases-more g l = input_limit - l.buffer.taken
