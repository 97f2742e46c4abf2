use Rattle.std.proofs.Common.{◌≡◌, ◌≤◌, ◌-◌}
use Rattle.wif_base.specs.Carried.{input_limit}
use Rattle.http_front.proofs.Takings.{Taken}
use Rattle.http_front.proofs.read.read_head.Given as goal

abbrev pub invariant-tries : goal.invariant-tries
invariant-tries g l = record {
  taken : Taken (g.I.Source.left l.fn.input) (g.I.Source.left l.input) l.fn.buffer l.buffer;
  within : l.buffer.taken ≤ input_limit;
  source : g.I.Source.faults l.fn.input ≤ g.I.Source.faults l.input;
  same_source : g.I.Source.lender l.input ≡ g.I.Source.lender l.fn.input;
}

abbrev pub decreases-tries : goal.decreases-tries
decreases-tries g l = input_limit - l.buffer.taken
