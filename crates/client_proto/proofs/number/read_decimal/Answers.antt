use Rattle.std.proofs.Common.{◌≡◌, ◌<◌, ◌^◌, sym, ◌∙◌, ap, arith, rules}
use Rattle.std.specs.Fmt.{decimal}
use Rattle.std.proofs.lemmas.Fmt.{parse-decimal}
use Rattle.client_proto.specs.Numbers.{decimal_up_to}
use Rattle.client_proto.proofs.NumberLemmas.{alike, differs, up_to-decimal, up_to-none}
use Rattle.client_proto.proofs.number.read_decimal.Goals as goal

pub returns-in_default : goal.returns-in_default
returns-in_default c = sym (up_to-none c.args.most c.args.text.now (λ n within is.
    let small : n < 2 ^ 64 = omega arith in
    let read = parse-decimal 64 n c.args.text.now c.parse.result small small is c.parse.ensures.value.0 in
    absurd (cc (read, c.in_default.is))))

pub returns-then-number-most : goal.returns-then-number-most
returns-then-number-most c = sym (up_to-none c.args.most c.args.text.now (λ n within is.
    let small : n < 2 ^ 64 = omega arith in
    let read = parse-decimal 64 n c.args.text.now c.parse.result small small is c.parse.ensures.value.0 in
    let number : c.in-Ok.number ≡ n = cc (read, c.in-Ok.is) in
    omega arith))

pub returns-then-ne : goal.returns-then-ne
returns-then-ne c = sym (up_to-none c.args.most c.args.text.now (λ n within is.
    let small : n < 2 ^ 64 = omega arith in
    let read = parse-decimal 64 n c.args.text.now c.parse.result small small is c.parse.ensures.value.0 in
    let number : c.in-Ok.number ≡ n = cc (read, c.in-Ok.is) in
    let printed : c.as_str.result.now ≡ decimal c.in-Ok.number = search rules in
    let equal : c.as_str.result.now ≡ c.args.text.now = printed ∙ ap decimal number ∙ sym is in
    differs _ _ c.if-ne.ensures equal))

pub returns : goal.returns
returns c =
    let printed : c.as_str.result.now ≡ decimal c.in-Ok.number = search rules in
    let equal : c.as_str.result.now ≡ c.args.text.now = alike _ _ c.if-ne.ensures in
    sym (ap (decimal_up_to c.args.most) (sym equal ∙ printed) ∙ up_to-decimal c.args.most c.in-Ok.number (omega arith) (omega arith))
