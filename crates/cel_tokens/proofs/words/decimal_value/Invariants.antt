use Rattle.std.proofs.Common.{◌≡◌, ◌<◌, ◌^◌, drop}
use Rattle.cel_tokens.specs.Words.{saturated, decimal_number}
use Rattle.cel_tokens.proofs.words.decimal_value.Given as goal

abbrev pub invariant-loop-digit : goal.invariant-loop-digit
invariant-loop-digit l = record {
  same : saturated (decimal_number l.value (drop l.digit-index l.digits)) ≡ saturated (decimal_number 0 l.digits);
  small : l.value < 2 ^ 64;
}
