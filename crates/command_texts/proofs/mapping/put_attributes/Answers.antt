use Rattle.std.proofs.Common.{◌≡◌, ℕ, List, [], ◌∷◌, ◌++◌, ap, ◌∙◌, sym, refl, rules, codes}
use Rattle.base_types.specs.Named.{by_bytes}
use Rattle.serde_json.specs.Data.{member, no_members}
use Rattle.serde_json.specs.View.{members_view}
use Rattle.json_text.specs.Clean.{HasCleanMembers}
use Rattle.json_text.proofs.CleanTexts.{followed, followed-none, followed-more, put-last, AreBefore, AreBefore-tail, AreBefore-grown}
use Rattle.cel_expression.specs.declared.expression.Expression.{Expression}
use Rattle.command_texts.specs.Written.{expression_data, with_attributes}
use Rattle.command_texts.proofs.MappingMembers.{attributes_clean}
use Rattle.command_texts.proofs.mapping.put_attributes.Goals as goal

pub loop-name-init : goal.loop-name-init
loop-name-init c =
    let pairs : by_bytes c.into_iter-name-iterator.result ≡ c.args.attributes.now = ap by_bytes c.into_iter-name-iterator.ensures.into_iter_gives ∙ c.iter-name-items.ensures.pairs in
    record {
      so_far = rw (pairs, c.requires) refl;
      before = rw c.requires tt;
      clean = rw pairs (attributes_clean c.args.attributes.now c.len.ensures.ordered);
    }

pub loop-name-preserved : goal.loop-name-preserved
loop-name-preserved c =
    let row : List ℕ × Expression = (c.as_str.result.now, c.in-Some.attribute.now) in
    let next : by_bytes c.loop-name.name-iterator ≡ row ∷ by_bytes c.next.new.self = search rules in
    let old = members_view c.loop-name.members.entries in
    let name = codes "attribute." ++ row.0 in
    let said = expression_data row.1 in
    let rest = with_attributes (by_bytes c.next.new.self) no_members in
    let clean : HasCleanMembers (member name said rest) = rw next at c.loop-name.invariant.clean in
    let before : AreBefore old (member name said rest) = rw next at c.loop-name.invariant.before in
    let whole : with_attributes c.args.attributes.now no_members ≡ followed old (member name said rest) = rw next at c.loop-name.invariant.so_far in
    let new : members_view c.put_attribute.new.members.entries ≡ followed old (member name said no_members) = c.in_ok-put_attribute.ensures ∙ put-last old name said said rest before in
    record {
      so_far = rw new (whole ∙ sym (followed-more old name said rest));
      before = rw new (AreBefore-grown old name said rest (AreBefore-tail old name said rest before) clean.2);
      clean = clean.1;
    }

pub returns : goal.returns
returns c =
    let done : by_bytes c.loop-name.name-iterator ≡ [] = search rules in
    let old = members_view c.loop-name.members.entries in
    let whole : with_attributes c.args.attributes.now no_members ≡ followed old no_members = rw done at c.loop-name.invariant.so_far in
    sym (whole ∙ followed-none old)
