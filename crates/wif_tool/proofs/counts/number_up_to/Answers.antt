use Rattle.std.proofs.Common.{◌≡◌, subst, arith}
use Rattle.std.proofs.lemmas.Fmt.{decimal_injective}
use Rattle.std.specs.Fmt.{decimal}
use Rattle.sts_serve.specs.Cut.{IsNumberOf}
use Rattle.wif_tool.proofs.counts.number_up_to.Goals as goal

pub returns-in-Ok-Some-eq0 : goal.returns-in-Ok-Some-eq0
returns-in-Ok-Some-eq0 g n = λ least most same.
    let number = subst (λ o. IsNumberOf g.args.most g.as_bytes.result.now o) g.in-Ok-Some-eq0.field-0-is g.in-Ok-Some-eq0.ensures in
    let texts : decimal 0 ≡ decimal n = cc (number.1, g.as_bytes.ensures.value, same, g.in-Ok-Some-eq0.field-0-0-test) in
    omega (arith, least, decimal_injective 0 n (omega arith) (omega (arith, most, g.ranges.most.fits)) texts)
