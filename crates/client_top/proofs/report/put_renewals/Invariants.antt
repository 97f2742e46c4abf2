use Rattle.std.proofs.Common.{◌≡◌, ◌++◌, drop}
use Rattle.std.specs.Prelude.{string_bytes}
use Rattle.client_top.specs.Report.{renewals_from}
use Rattle.client_top.proofs.report.put_renewals.Given as goal

abbrev pub invariant-loop-index : goal.invariant-loop-index
invariant-loop-index l =
    string_bytes l.text ++ renewals_from l.index (drop l.index l.history) ≡ string_bytes l.fn.text ++ renewals_from 0 l.history
