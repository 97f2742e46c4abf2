use Rattle.std.proofs.Common.{List, [], ◌∷◌, refl, sym, ◌∙◌, subst, arith}
use Rattle.std.specs.Prelude.{Option}
use Rattle.connection_ends.specs.Pairs.{Pair, Takes, Puts}
use Rattle.http_serve.proofs.Visiting.{starts, visited, stopped, going, ticked}
use Rattle.http_serve.proofs.listen.serve_each.Goals as goal

pub connections-init : goal.connections-init
connections-init g c = record {
  run = λ config journal stands. starts config journal _ _ _ _ _ stands;
  none_out = c.requires;
  whole = refl;
  ends = omega arith;
  ticks = omega arith;
  disk = omega arith;
  same_ends = refl;
  same_clock = refl;
  same_disk = refl;
}

pub returns-in-Stopped-clause-run : goal.returns-in-Stopped-clause-run
returns-in-Stopped-clause-run g c = λ config journal stands.
    let u = c.connections.invariant.run config journal stands in
    let e = c.serve_connection-end in
    let pair : Pair = record { left = g.E.In.Source.left c.in-Ok.pair.0; read_faults = g.E.In.Source.faults c.in-Ok.pair.0; taken = g.E.Out.Sink.taken c.in-Ok.pair.1; write_faults = g.E.Out.Sink.faults c.in-Ok.pair.1 } in
    let back : Pair = record { left = g.E.In.Source.left e.new.input; read_faults = g.E.In.Source.faults e.new.input; taken = g.E.Out.Sink.taken e.new.output; write_faults = g.E.Out.Sink.faults e.new.output } in
    stopped config journal _ _ _ _ _ _ _ _ _ _ _ u _ _ pair back _ _ _ e.result (e.ensures.run config u.now u.stands) e.ensures.read_fault e.ensures.write_fault
    (subst (λ (o : Option (List Pair)). Takes (g.E.Ends.waiting c.connections.ends) o (pair ∷ [])) (sym c.done.ensures.waiting) c.in-Ok.ensures.first)
    (subst (λ (o : Option (List Pair)). Puts o (g.E.Ends.given c.done.new.self) (back ∷ [])) c.next.ensures.given c.done.ensures.given)
    (ticked e.result _ _ e.ensures.clock_count e.ensures.clock_fault) c.in-Stopped.stop _ (omega arith) c.in-Stopped.is

pub connections-preserved : goal.connections-preserved
connections-preserved g c =
    let i = c.connections.invariant in
    let e = c.serve_connection-end in
    let pair : Pair = record { left = g.E.In.Source.left c.in-Ok.pair.0; read_faults = g.E.In.Source.faults c.in-Ok.pair.0; taken = g.E.Out.Sink.taken c.in-Ok.pair.1; write_faults = g.E.Out.Sink.faults c.in-Ok.pair.1 } in
    let back : Pair = record { left = g.E.In.Source.left e.new.input; read_faults = g.E.In.Source.faults e.new.input; taken = g.E.Out.Sink.taken e.new.output; write_faults = g.E.Out.Sink.faults e.new.output } in
    record {
      run = λ config journal stands.
          let u = i.run config journal stands in
          visited config journal _ _ _ _ _ _ _ _ _ _ _ u _ _ pair back _ _ _ e.result (e.ensures.run config u.now u.stands) e.ensures.read_fault e.ensures.write_fault
          (subst (λ (o : Option (List Pair)). Takes (g.E.Ends.waiting c.connections.ends) o (pair ∷ [])) (sym c.done.ensures.waiting) c.in-Ok.ensures.first)
          (subst (λ (o : Option (List Pair)). Puts o (g.E.Ends.given c.done.new.self) (back ∷ [])) c.next.ensures.given c.done.ensures.given)
          (ticked e.result _ _ e.ensures.clock_count e.ensures.clock_fault) (going e.result (λ stop is. c.in_default.not-Stopped stop is));
      none_out = c.done.ensures.none_out;
      whole = e.ensures.whole (λ is. c.in_default.not-Stopped _ is) ∙ i.whole;
      ends = omega (arith, i.ends, c.next.ensures.cause.later, c.done.ensures.count);
      ticks = omega (arith, i.ticks, e.ensures.clock_count);
      disk = omega (arith, i.disk, e.ensures.disk_count);
      same_ends = c.done.ensures.same ∙ c.next.ensures.same ∙ i.same_ends;
      same_clock = e.ensures.same_clock ∙ i.same_clock;
      same_disk = e.ensures.same_disk ∙ i.same_disk;
    }
