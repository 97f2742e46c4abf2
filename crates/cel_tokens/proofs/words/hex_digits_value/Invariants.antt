use Rattle.std.proofs.Common.{◌≡◌, ◌<◌, ◌^◌, drop}
use Rattle.cel_tokens.specs.Words.{saturated, hex_number}
use Rattle.cel_tokens.proofs.words.hex_digits_value.Given as goal

abbrev pub invariant-loop-digit : goal.invariant-loop-digit
invariant-loop-digit l = record {
  same : saturated (hex_number l.value (drop l.digit-index l.digits)) ≡ saturated (hex_number 0 l.digits);
  small : l.value < 2 ^ 64;
}
