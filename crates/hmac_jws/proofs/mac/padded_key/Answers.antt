use Rattle.std.proofs.Common.{◌∙◌, ◌≤◌, ℕ, arith, length, le-leb}
use Rattle.std.proofs.lemmas.List.{drop-replicate}
use Rattle.hmac_jws.proofs.mac.padded_key.Goals as goal

pub returns-then-key-le64 : goal.returns-then-key-le64
returns-then-key-le64 c =
    let short : length c.args.key.now ≤ 64 = omega arith in
    c.write_front.ensures ∙ rw (le-leb _ _ short, drop-replicate {X = ℕ} (length c.args.key.now) 64 0)
