use Rattle.std.proofs.Common.{◌≡◌, ◌∙◌, sym}
use Rattle.std.proofs.lemmas.Slice.Eq.{bytes_eq-Decides}
use Rattle.hmac_jws.specs.Compact.{signed_header}
use Rattle.hmac_jws.proofs.Issued.{header_is_good}
use Rattle.hmac_jws.proofs.header.is_written.Goals as goal

pub returns : goal.returns
returns c is =
    let same : c.args.bytes.now ≡ signed_header = (bytes_eq-Decides c.args.bytes.now c.as_bytes.result.now).0 (sym c.eq.ensures ∙ is) ∙ c.as_bytes.ensures.value in
    rw same header_is_good
