use Rattle.std.proofs.Common.{◌<◌, length, ap, arith, bit_xor, get_or, length-append}
use Rattle.std.proofs.lemmas.List.{length-take, length-drop, length-map, get_or_default}
use Rattle.std.proofs.lemmas.List.Edits.{map_over_more}
use Rattle.hmac_jws.proofs.mac.with_pad.Goals as goal

pub loop-byte-preserved : goal.loop-byte-preserved
loop-byte-preserved c =
    let xs = c.args.block.now in
    let ys = c.loop-byte.byte-items in
    let i = c.loop-byte.byte-index in
    let long = simp (length-append, length-map, length-take, length-drop) at (ap length c.loop-byte.invariant) in
    let within : i < length ys = omega (arith, long) in
    let x = get_or ys i 0 in
    map_over_more (λ b. bit_xor b c.args.pad) xs ys i x (omega arith) c.loop-byte.invariant (get_or_default ys i 0 x within)
