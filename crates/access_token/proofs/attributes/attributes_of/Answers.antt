use Rattle.std.proofs.Common.{◌≡◌, ◌∷◌, ◌∙◌, rules}
use Rattle.access_token.proofs.AttributeSteps.{read-begin, read-more}
use Rattle.access_token.proofs.attributes.attributes_of.Goals as goal

pub loop-name-init : goal.loop-name-init
loop-name-init c =
    read-begin c.args.members.now.entries c.into_iter-name-iterator.result c.new-attributes.result c.new-attributes.ensures (c.into_iter-name-iterator.ensures.into_iter_gives ∙ c.iter-name-items.ensures.rest) c.iter-name-items.ensures.ordered

pub loop-name-preserved : goal.loop-name-preserved
loop-name-preserved c =
    let next : c.loop-name.name-iterator ≡ (c.in-Some.name.now, c.in-Some.json.now) ∷ c.next.new.self = search rules in
    let before = rw next at c.loop-name.invariant in
    read-more c.args.members.now.entries c.loop-name.attributes c.insert.new.self (c.in-Some.name.now, c.in-Some.json.now) c.next.new.self c.in_ok-value.value
    before (rw c.as_str.ensures.value at c.in_ok-value.ensures) (search rules)
