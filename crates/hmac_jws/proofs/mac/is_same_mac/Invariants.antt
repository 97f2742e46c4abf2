use Rattle.std.proofs.Common.{◌≡◌, ◌==◌, take}
use Rattle.std.specs.Str.{bytes_eq}
use Rattle.hmac_jws.proofs.mac.is_same_mac.Given as goal

abbrev pub invariant-loop-at : goal.invariant-loop-at
invariant-loop-at l = (l.difference == 0) ≡ bytes_eq (take l.at l.found) (take l.at l.mac)
