use Rattle.std.proofs.Common.{arith}
use Rattle.std.proofs.lemmas.Grind.{common_steps}
use Rattle.access_token.proofs.Digits.{refused}
use Rattle.access_token.proofs.numbers.number_of.Goals as goal

pub returns-then-number-ge-NUMBER_LIMIT : goal.returns-then-number-ge-NUMBER_LIMIT
returns-then-number-ge-NUMBER_LIMIT c =
    let text = c.args.text.now in
    let index = c.loop-byte.byte-index in
    refused c.loop-byte.number text index (omega arith) c.loop-byte.invariant.written (grind (arith, common_steps, c.digit_value.ensures))
