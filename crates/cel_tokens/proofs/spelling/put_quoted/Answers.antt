use Rattle.std.proofs.Common.{append_assoc}
use Rattle.cel_tokens.proofs.Escapes.{quoted_bytes-append}
use Rattle.cel_tokens.proofs.spelling.put_quoted.Goals as goal

pub loop-character-preserved : goal.loop-character-preserved
loop-character-preserved c =
    let parts = c.in-Some.ensures.steps.0 in
    rw (c.in_ok-put_character.ensures, append_assoc) (rw (parts, quoted_bytes-append) at c.loop-character.invariant)
