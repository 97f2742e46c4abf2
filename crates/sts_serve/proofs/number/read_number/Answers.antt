use Rattle.std.proofs.Common.{◌≡◌, ◌<◌, ◌^◌, sym, ◌∙◌, ap, subst, arith, rules}
use Rattle.std.specs.Prelude.{IsUtf8}
use Rattle.std.specs.Fmt.{decimal}
use Rattle.std.proofs.lemmas.Str.{IsUtf8-from_ascii}
use Rattle.std.proofs.lemmas.Fmt.{IsAscii-decimal, parse-decimal}
use Rattle.sts_serve.proofs.Words.{differs}
use Rattle.sts_serve.proofs.number.read_number.Goals as goal

pub returns-in_default : goal.returns-in_default
returns-in_default c = λ n low is.
    let small : n < 2 ^ 64 = omega arith in
    c.in_default.ensures.cases.0 (subst IsUtf8 (sym is) (IsUtf8-from_ascii (decimal n) (IsAscii-decimal n small)))

pub returns-in_default-parse : goal.returns-in_default-parse
returns-in_default-parse c = λ n low is.
    let small : n < 2 ^ 64 = omega arith in
    let same : c.in-Ok.digits.now ≡ decimal n = c.in-Ok.ensures.cases.0 ∙ is in
    let read = parse-decimal 64 n c.in-Ok.digits.now c.parse.result small small same c.parse.ensures.value.0 in
    absurd (cc (read, c.in_default-parse.is))

pub returns-then-number-most : goal.returns-then-number-most
returns-then-number-most c = λ n low is.
    let small : n < 2 ^ 64 = omega arith in
    let same : c.in-Ok.digits.now ≡ decimal n = c.in-Ok.ensures.cases.0 ∙ is in
    let read = parse-decimal 64 n c.in-Ok.digits.now c.parse.result small small same c.parse.ensures.value.0 in
    let number : c.in-Ok-parse.number ≡ n = cc (read, c.in-Ok-parse.is) in
    omega arith

pub returns-then-ne : goal.returns-then-ne
returns-then-ne c = λ n low is.
    let small : n < 2 ^ 64 = omega arith in
    let same : c.in-Ok.digits.now ≡ decimal n = c.in-Ok.ensures.cases.0 ∙ is in
    let read = parse-decimal 64 n c.in-Ok.digits.now c.parse.result small small same c.parse.ensures.value.0 in
    let number : c.in-Ok-parse.number ≡ n = cc (read, c.in-Ok-parse.is) in
    let printed : c.as_str.result.now ≡ decimal c.in-Ok-parse.number = search rules in
    let equal : c.as_str.result.now ≡ c.in-Ok.digits.now = printed ∙ ap decimal number ∙ sym same in
    differs _ _ c.if-ne.ensures equal
