use Rattle.hmac_jws.proofs.Splitting.{parts-three, parts-four, joined-three}
use Rattle.hmac_jws.proofs.parts.parts_of.Goals as goal

pub returns-then-is_some-clause-none : goal.returns-then-is_some-clause-none
returns-then-is_some-clause-none c =
    parts-four c.args.text.now c.in_ok-header.header.now c.in_ok-header.rest.now c.in_ok-payload.payload.now c.in_ok-payload.mac.now
    c.cut_at_dot-3.result c.in_ok-header.ensures c.in_ok-payload.ensures c.cut_at_dot-3.ensures cc

pub returns-clause-input : goal.returns-clause-input
returns-clause-input c =
    let header = c.in_ok-header.header.now in
    let payload = c.in_ok-payload.payload.now in
    let mac = c.in_ok-payload.mac.now in
    joined-three c.args.text.now header payload mac
    (parts-three c.args.text.now header c.in_ok-header.rest.now payload mac c.cut_at_dot-3.result
    c.in_ok-header.ensures c.in_ok-payload.ensures c.cut_at_dot-3.ensures cc)
