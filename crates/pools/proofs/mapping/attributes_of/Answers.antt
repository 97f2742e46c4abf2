use Rattle.std.proofs.Common.{◌≡◌, ◌∷◌, Ok, arith, rules}
use Rattle.base_types.specs.Named.{by_bytes}
use Rattle.pools.specs.Mapped.{attribute_of}
use Rattle.pools.proofs.Attributes.{mapped-more}
use Rattle.pools.proofs.mapping.attributes_of.Goals as goal

pub loop-name-preserved : goal.loop-name-preserved
loop-name-preserved c =
    let next : by_bytes c.loop-name.name-iterator ≡ (c.as_str.result.now, c.in-Some.attribute.now) ∷ by_bytes c.next.new.self = search rules in
    let before = rw next at c.loop-name.invariant in
    let mapped : attribute_of c.as_str.result.now c.in-Some.attribute.now c.args.env.now ≡ Ok c.in_ok-text.text = grind arith in
    mapped-more c.args.attributes.now (by_bytes c.next.new.self) c.args.env.now c.loop-name.texts c.insert.new.self c.as_str.result.now c.in-Some.attribute.now c.in_ok-text.text
    before mapped (search rules)
