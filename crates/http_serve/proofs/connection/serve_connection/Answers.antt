use Rattle.std.proofs.Common.{refl, ◌∙◌, arith}
use Rattle.http_serve.proofs.Runs.{begins}
use Rattle.http_serve.proofs.Steps.{shorter, goes_on, closes_by, breaks_off, no_moment, at_end, read_failed, past_limit, no_memory, is_refused}
use Rattle.http_serve.proofs.connection.serve_connection.Goals as goal

pub requests-init : goal.requests-init
requests-init g c = record {
  run = λ config journal stands. begins config journal _ _ _ _ _ _ stands c.new-buffer.ensures.unused c.new-buffer.ensures.taken;
  whole = refl;
  within = omega (arith, c.new-buffer.ensures.taken);
  source = omega arith;
  sink = omega arith;
  ticks = omega arith;
  disk = omega arith;
  same_source = refl;
  same_sink = refl;
  same_clock = refl;
  same_disk = refl;
}

pub returns-in_default-clause-run : goal.returns-in_default-clause-run
returns-in_default-clause-run g c = λ config journal stands.
    let r = rw c.in-Ok-Some.field-0-is at c.in-Ok-Some.ensures.reads in
    no_moment config journal _ _ _ _ _ _ _ _ _ c.requests.buffer c.read_request.new.buffer (c.requests.invariant.run config journal stands)
    c.in-Ok-Some.incoming r _ c.in_default.ensures.told

pub returns-in-Err-clause-run : goal.returns-in-Err-clause-run
returns-in-Err-clause-run g c = λ config journal stands.
    let r = rw c.in-Ok-Some.field-0-is at c.in-Ok-Some.ensures.reads in
    let u = c.requests.invariant.run config journal stands in
    let went = c.in-Err.ensures.answers config u.now u.stands in
    breaks_off config journal _ _ _ _ _ _ _ _ _ c.requests.buffer c.read_request.new.buffer u
    c.in-Ok-Some.incoming r c.in-Ok.at c.in-Ok.ensures.moment _ c.in-Ok.ensures.told _ went.0 _ c.in-Err.end c.in-Err.ensures.ends (went.1, went.2)
    (c.in-Err.ensures.any_moment config u.now u.stands)

pub returns-then-close-clause-run : goal.returns-then-close-clause-run
returns-then-close-clause-run g c = λ config journal stands.
    let r = rw c.in-Ok-Some.field-0-is at c.in-Ok-Some.ensures.reads in
    let u = c.requests.invariant.run config journal stands in
    let went = c.in_default-answered.ensures.answers config u.now u.stands in
    closes_by config journal _ _ _ _ _ _ _ _ _ c.requests.buffer c.read_request.new.buffer u
    c.in-Ok-Some.incoming r c.in-Ok.at c.in-Ok.ensures.moment _ c.in-Ok.ensures.told _ went.0 _ c.if-close.true (went.1, went.2)
    (c.answer_incoming-answered.ensures.any_moment config u.now u.stands)

pub requests-smaller : goal.requests-smaller
requests-smaller g c =
    let r = rw c.in-Ok-Some.field-0-is at c.in-Ok-Some.ensures.reads in
    shorter _ _ c.requests.buffer c.read_request.new.buffer c.in-Ok-Some.incoming c.requests.invariant.within r

pub requests-preserved : goal.requests-preserved
requests-preserved g c =
    let i = c.requests.invariant in
    let r = rw c.in-Ok-Some.field-0-is at c.in-Ok-Some.ensures.reads in
    record {
      run = λ config journal stands.
          let u = i.run config journal stands in
          let went = c.in_default-answered.ensures.answers config u.now u.stands in
          goes_on config journal _ _ _ _ _ _ _ _ _ c.requests.buffer c.read_request.new.buffer u
          c.in-Ok-Some.incoming r c.in-Ok.at c.in-Ok.ensures.moment _ c.in-Ok.ensures.told _ went.0 _ c.if-close.false (went.1, went.2)
          (c.answer_incoming-answered.ensures.any_moment config u.now u.stands);
      whole = c.in_default-answered.ensures.whole (λ is. cc is) ∙ i.whole;
      within = r.found.1;
      source = omega (arith, i.source, c.read_request.ensures.count);
      sink = omega (arith, i.sink, c.answer_incoming-answered.ensures.count.0);
      ticks = omega (arith, i.ticks, c.now.ensures.cause.later);
      disk = omega (arith, i.disk, c.answer_incoming-answered.ensures.count.1);
      same_source = c.read_request.ensures.same ∙ i.same_source;
      same_sink = c.answer_incoming-answered.ensures.same.0 ∙ i.same_sink;
      same_clock = c.now.ensures.same ∙ i.same_clock;
      same_disk = c.answer_incoming-answered.ensures.same.1 ∙ i.same_disk;
    }

pub returns-in-Ok-None-clause-run : goal.returns-in-Ok-None-clause-run
returns-in-Ok-None-clause-run g c = λ config journal stands.
    let r = rw c.in-Ok-None.field-0-is at c.in-Ok-None.ensures.reads in
    at_end config journal _ _ _ _ _ _ _ _ _ c.requests.buffer c.read_request.new.buffer (c.requests.invariant.run config journal stands) r

pub returns-in-Err-Refused-clause-run : goal.returns-in-Err-Refused-clause-run
returns-in-Err-Refused-clause-run g c = λ config journal stands.
    let r = rw c.in-Err-Refused.field-0-is at c.in-Err-Refused.ensures.reads in
    is_refused config journal _ _ _ _ _ _ _ _ _ c.requests.buffer c.read_request.new.buffer (c.requests.invariant.run config journal stands)
    c.in-Err-Refused.rule c.refuse.result _ r c.refuse.ensures.written

pub returns-in-Err-ReadFault-clause-run : goal.returns-in-Err-ReadFault-clause-run
returns-in-Err-ReadFault-clause-run g c = λ config journal stands.
    let r = rw c.in-Err-ReadFault.field-0-is at c.in-Err-ReadFault.ensures.reads in
    read_failed config journal _ _ _ _ _ _ _ _ _ c.requests.buffer c.read_request.new.buffer (c.requests.invariant.run config journal stands) r

pub returns-in-Err-InputLimit-clause-run : goal.returns-in-Err-InputLimit-clause-run
returns-in-Err-InputLimit-clause-run g c = λ config journal stands.
    let r = rw c.in-Err-InputLimit.field-0-is at c.in-Err-InputLimit.ensures.reads in
    past_limit config journal _ _ _ _ _ _ _ _ _ c.requests.buffer c.read_request.new.buffer (c.requests.invariant.run config journal stands) r

pub returns-in-Err-Memory-clause-run : goal.returns-in-Err-Memory-clause-run
returns-in-Err-Memory-clause-run g c = λ config journal stands.
    let r = rw c.in-Err-Memory.field-0-is at c.in-Err-Memory.ensures.reads in
    no_memory config journal _ _ _ _ _ _ _ _ _ c.requests.buffer c.read_request.new.buffer (c.requests.invariant.run config journal stands) r
