use Rattle.std.proofs.Common.{◌≡◌, ◌++◌, take, drop}
use Rattle.hmac_jws.specs.Hmac.{xor_pad}
use Rattle.hmac_jws.proofs.mac.with_pad.Given as goal

abbrev pub invariant-loop-byte : goal.invariant-loop-byte
invariant-loop-byte l = l.byte-items ≡ xor_pad l.pad (take l.byte-index l.block) ++ drop l.byte-index l.block
