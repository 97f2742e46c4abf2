use Rattle.std.proofs.Common.{ℕ, ◌+◌, ◌*◌, min, ◌∙◌, ap, arith}
use Rattle.http_front.proofs.FieldLists.{one_digit_more}
use Rattle.http_front.proofs.fields.capped_number.Goals as goal

pub loop-byte-preserved : goal.loop-byte-preserved
loop-byte-preserved c =
    c.min-number.ensures
    ∙ ap (λ (n : ℕ). min (c.loop-byte.number * 10 + n) 65537) (c.from.ensures ∙ c.saturating_sub.ensures)
    ∙ one_digit_more c.args.text.now c.loop-byte.byte-index c.loop-byte.number c.requires (omega arith) c.loop-byte.invariant
