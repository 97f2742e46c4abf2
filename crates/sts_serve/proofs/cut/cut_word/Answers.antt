use Rattle.std.proofs.Common.{◌≡◌, ◌≢◌, ◌<◌, ◌⊎◌, get_or, inl, inr, arith}
use Rattle.sts_serve.proofs.Words.{refused}
use Rattle.sts_serve.proofs.cut.cut_word.Goals as goal
use Rattle.sts_serve.proofs.cut.cut_word.Goals.{then-byte-lt33-via-then-byte-lt33, then-byte-lt33-via-else-byte-lt33+then-byte-gt126, then-byte-lt33-via-else-byte-lt33+else-byte-gt126+then-index-longest}

pub returns-then-byte-lt33 : goal.returns-then-byte-lt33
returns-then-byte-lt33 c =
    let byte = get_or c.args.bytes.now c.bytes.index 0 in
    let why : (byte < 33) ⊎ ((126 < byte) ⊎ (c.bytes.index ≡ c.args.longest)) = elim c.then-byte-lt33.branch [
      | then-byte-lt33-via-then-byte-lt33 w ↦ inl (omega arith)
      | then-byte-lt33-via-else-byte-lt33+then-byte-gt126 w ↦ inr (inl (omega arith))
      | then-byte-lt33-via-else-byte-lt33+else-byte-gt126+then-index-longest w ↦ inr (inr (omega arith))
    ] in
    let not : byte ≢ c.args.separator = omega arith in
    refused c.args.separator c.args.longest c.args.bytes.now c.bytes.index c.requires (omega arith) c.bytes.invariant.visible why not
