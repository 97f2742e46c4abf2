use Rattle.std.proofs.Common.{ap, arith}
use Rattle.base64.specs.Rfc4648.{unpadded_len}
use Rattle.hmac_jws.proofs.Lengths.{length-compact}
use Rattle.hmac_jws.proofs.compact.signed_length.Goals as goal

pub returns : goal.returns
returns c = λ key bytes is. omega (arith, length-compact key bytes, ap unpadded_len is)
