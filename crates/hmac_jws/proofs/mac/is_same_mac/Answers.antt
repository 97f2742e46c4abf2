use Rattle.std.proofs.Common.{◌≡◌, ◌<◌, ◌&&◌, ◌==◌, length, take, get_or, arith, ap, sym, ◌∙◌}
use Rattle.std.proofs.lemmas.List.{take_more, length-take}
use Rattle.hmac_jws.proofs.Sameness.{difference_more, bytes_eq_more}
use Rattle.hmac_jws.proofs.mac.is_same_mac.Goals as goal

pub loop-at-preserved : goal.loop-at-preserved
loop-at-preserved c =
    let found = c.args.found.now in
    let mac = c.args.mac.now in
    let i = c.loop-at.at in
    let x = get_or found i 0 in
    let y = get_or mac i 0 in
    let in_found : i < length found = omega arith in
    let in_mac : i < length mac = omega arith in
    let long : length (take i found) ≡ length (take i mac) = simp length-take (omega arith) in
    difference_more c.loop-at.difference x y
    ∙ ap (λ same. same && (x == y)) c.loop-at.invariant
    ∙ rw (take_more found i 0 in_found, take_more mac i 0 in_mac) (sym (bytes_eq_more (take i found) (take i mac) x y long))
