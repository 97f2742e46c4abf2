use Rattle.std.proofs.Common.{◌<◌, ◌^◌, ◌∙◌, refl, arith}
use Rattle.std.proofs.lemmas.Fmt.{parse-decimal}
use Rattle.links.proofs.issued.number_of.Goals as goal

pub returns : goal.returns
returns c = λ n low same.
    let small : n < 2 ^ 64 = omega arith in
    let read = parse-decimal 32 n c.args.text.now c.parse.result low small same c.parse.ensures.value.0 in
    c.ok.ensures.value ∙ rw read refl
