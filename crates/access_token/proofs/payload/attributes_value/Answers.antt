use Rattle.std.proofs.Common.{◌≡◌, [], ◌∷◌, ap, ◌∙◌, sym, refl, rules}
use Rattle.base_types.specs.Named.{by_bytes}
use Rattle.serde_json.specs.Data.{object, string, member, no_members}
use Rattle.serde_json.specs.View.{members_view}
use Rattle.serde_json.proofs.Views.{view-Object}
use Rattle.access_token.specs.Payload.{attributes_data}
use Rattle.json_text.specs.Clean.{HasCleanMembers}
use Rattle.json_text.proofs.CleanTexts.{followed, followed-none, followed-more, put-last, AreBefore, AreBefore-tail, AreBefore-grown}
use Rattle.access_token.proofs.Writing.{clean_attributes}
use Rattle.access_token.proofs.payload.attributes_value.Goals as goal

pub loop-name-init : goal.loop-name-init
loop-name-init c =
    let pairs : by_bytes c.into_iter-name-iterator.result ≡ c.args.attributes.now = ap by_bytes c.into_iter-name-iterator.ensures.into_iter_gives ∙ c.iter-name-items.ensures.pairs in
    let empty : members_view c.new-members.result.entries ≡ no_members = search rules in
    rw (pairs, empty) (refl, tt, clean_attributes c.args.attributes.now c.len.ensures.ordered)

pub loop-name-preserved : goal.loop-name-preserved
loop-name-preserved c =
    let next : by_bytes c.loop-name.name-iterator ≡ (c.as_str.result.now, c.as_str-in-loop-name.result.now) ∷ by_bytes c.next.new.self = search rules in
    let old = members_view c.loop-name.members.entries in
    let name = c.as_str.result.now in
    let text = c.as_str-in-loop-name.result.now in
    let rest = attributes_data (by_bytes c.next.new.self) in
    let clean : HasCleanMembers (member name (string text) rest) = rw next at c.loop-name.invariant.2 in
    let before : AreBefore old (member name (string text) rest) = rw next at c.loop-name.invariant.1 in
    let whole : attributes_data c.args.attributes.now ≡ followed old (member name (string text) rest) = rw next at c.loop-name.invariant.0 in
    let new : members_view c.put_text.new.members.entries ≡ followed old (member name (string text) no_members) = c.in_ok-put_text.ensures ∙ put-last old name (string text) (string text) rest before in
    rw new (
      whole ∙ sym (followed-more old name (string text) rest),
      AreBefore-grown old name (string text) rest (AreBefore-tail old name (string text) rest before) clean.2,
      clean.1,
    )

pub returns : goal.returns
returns c =
    let done : by_bytes c.loop-name.name-iterator ≡ [] = search rules in
    let old = members_view c.loop-name.members.entries in
    let whole : attributes_data c.args.attributes.now ≡ followed old no_members = rw done at c.loop-name.invariant.0 in
    view-Object c.loop-name.members ∙ ap object (sym (whole ∙ followed-none old))
