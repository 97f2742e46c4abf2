use Rattle.std.proofs.Common.{◌≡◌, ◌≤◌, List, false}
use Rattle.service_config.specs.declared.config.Config.{Config}
use Rattle.links.specs.declared.entry.Entry.{Entry}
use Rattle.sts_core.specs.State.{Stands}
use Rattle.http_serve.proofs.Visiting.{Between}
use Rattle.http_serve.proofs.listen.serve_each.Given as goal

abbrev pub invariant-connections : goal.invariant-connections
invariant-connections g l = record {
  run : (config : Config) (journal : List Entry) → Stands l.fn.sts config journal
      → Between config journal l.fn.sts l.sts (g.E.Ends.waiting l.fn.ends) (g.E.Ends.waiting l.ends) (g.E.Ends.given l.fn.ends) (g.E.Ends.given l.ends)
      (g.C.Clock.moments l.fn.clock) (g.C.Clock.moments l.clock) (g.C.Clock.faults l.fn.clock) (g.C.Clock.faults l.clock) l._number;
  none_out : g.E.Ends.is_out l.ends ≡ false;
  whole : l.sts.journal.broken ≡ l.fn.sts.journal.broken;
  ends : g.E.Ends.faults l.fn.ends ≤ g.E.Ends.faults l.ends;
  ticks : g.C.Clock.faults l.fn.clock ≤ g.C.Clock.faults l.clock;
  disk : l.fn.sts.journal.faults ≤ l.sts.journal.faults;
  same_ends : g.E.Ends.lender l.ends ≡ g.E.Ends.lender l.fn.ends;
  same_clock : g.C.Clock.lender l.clock ≡ g.C.Clock.lender l.fn.clock;
  same_disk : l.sts.journal.lender ≡ l.fn.sts.journal.lender;
}
