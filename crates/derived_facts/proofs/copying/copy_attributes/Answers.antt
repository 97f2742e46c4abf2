use Rattle.std.proofs.Common.{◌≡◌, ◌∷◌, rules}
use Rattle.base_types.specs.Named.{by_bytes, put_in_order}
use Rattle.derived_facts.proofs.Attributes.{copied-more}
use Rattle.derived_facts.proofs.copying.copy_attributes.Goals as goal

pub loop-name-preserved : goal.loop-name-preserved
loop-name-preserved c =
    let name = c.as_str.result.now in
    let value = c.in_ok-copy.field-0 in
    let next : by_bytes c.loop-name.name-iterator ≡ (name, value) ∷ by_bytes c.next.new.self = search rules in
    let put : c.insert.new.self ≡ put_in_order name value c.loop-name.copy = search rules in
    copied-more c.args.attributes.now c.loop-name.copy c.insert.new.self (by_bytes c.next.new.self) name value (rw next at c.loop-name.invariant) put
