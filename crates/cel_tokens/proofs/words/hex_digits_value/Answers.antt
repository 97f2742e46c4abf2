use Rattle.std.proofs.Common.{arith, ◌∙◌, refl}
use Rattle.cel_tokens.specs.Words.{hex_number}
use Rattle.cel_tokens.proofs.Numbers.{hex_more, number_end}
use Rattle.cel_tokens.proofs.words.hex_digits_value.Goals as goal

pub loop-digit-preserved : goal.loop-digit-preserved
loop-digit-preserved c = record {
  same = hex_more c.args.digits.now c.loop-digit.digit-index c.loop-digit.value c.saturating_add-value.result (omega arith) (cc) ∙ c.loop-digit.invariant.same;
  small = omega arith;
}

pub returns : goal.returns
returns c = number_end hex_number c.args.digits.now c.loop-digit.digit-index c.loop-digit.value (λ n. refl) (omega arith) (omega arith) c.loop-digit.invariant.same
