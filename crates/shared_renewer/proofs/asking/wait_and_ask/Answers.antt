use Rattle.shared_renewer.proofs.Serving.{served, still_idle, through}
use Rattle.shared_renewer.proofs.Stepping.{is_ready}
use Rattle.shared_renewer.proofs.asking.wait_and_ask.Goals as goal

pub serve-requires-clause-client : goal.serve-requires-clause-client
serve-requires-clause-client g c =
    let k = g.L.Link in
    let w = c.wait_turn.ensures.gained in
    let i = still_idle k.faults k.calls k.lender c.args.seat.now.me w.0 c.requires.idle w.1 in
    (w.2.client, is_ready _ _ c.wait_turn.result w.0 c.wait_turn.new.seat.me w.2 i.2 i.1)

pub returns-clause-served : goal.returns-clause-served
returns-clause-served g c =
    let k = g.L.Link in
    let w = c.wait_turn.ensures.gained in
    let i = still_idle k.faults k.calls k.lender c.args.seat.now.me w.0 c.requires.idle w.1 in
    let s = c.serve.ensures.served w.2.client (is_ready _ _ c.wait_turn.result w.0 c.wait_turn.new.seat.me w.2 i.2 i.1) in
    served k.faults k.calls k.lender c.args.at c.wait_turn.result c.args.seat.now.me w.0 c.wait_turn.new.seat.me c.serve.new.seat.me s.0 c.serve.result w.1 w.2 s.1

pub returns-clause-idle : goal.returns-clause-idle
returns-clause-idle g c =
    let k = g.L.Link in
    let w = c.wait_turn.ensures.gained in
    let i = still_idle k.faults k.calls k.lender c.args.seat.now.me w.0 c.requires.idle w.1 in
    let s = c.serve.ensures.served w.2.client (is_ready _ _ c.wait_turn.result w.0 c.wait_turn.new.seat.me w.2 i.2 i.1) in
    (through k.faults k.calls k.lender c.wait_turn.result c.args.seat.now.me w.0 c.wait_turn.new.seat.me c.serve.new.seat.me _ s.0 c.requires.idle.1 w.1 w.2 s.1.has s.1.rises s.1.now).idle

pub returns-clause-keeps : goal.returns-clause-keeps
returns-clause-keeps g c =
    let k = g.L.Link in
    let w = c.wait_turn.ensures.gained in
    let i = still_idle k.faults k.calls k.lender c.args.seat.now.me w.0 c.requires.idle w.1 in
    let s = c.serve.ensures.served w.2.client (is_ready _ _ c.wait_turn.result w.0 c.wait_turn.new.seat.me w.2 i.2 i.1) in
    (through k.faults k.calls k.lender c.wait_turn.result c.args.seat.now.me w.0 c.wait_turn.new.seat.me c.serve.new.seat.me _ s.0 c.requires.idle.1 w.1 w.2 s.1.has s.1.rises s.1.now).keeps

pub returns-clause-rises : goal.returns-clause-rises
returns-clause-rises g c =
    let k = g.L.Link in
    let w = c.wait_turn.ensures.gained in
    let i = still_idle k.faults k.calls k.lender c.args.seat.now.me w.0 c.requires.idle w.1 in
    let s = c.serve.ensures.served w.2.client (is_ready _ _ c.wait_turn.result w.0 c.wait_turn.new.seat.me w.2 i.2 i.1) in
    (through k.faults k.calls k.lender c.wait_turn.result c.args.seat.now.me w.0 c.wait_turn.new.seat.me c.serve.new.seat.me _ s.0 c.requires.idle.1 w.1 w.2 s.1.has s.1.rises s.1.now).rises
