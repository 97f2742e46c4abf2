use Rattle.std.proofs.Common.{◌≡◌, ◌∙◌, ap, map, take_all, arith}
use Rattle.serde_json.specs.View.{view}
use Rattle.serde_json.proofs.Views.{view-Array}
use Rattle.boundary.proofs.WrittenParts.{array_written}
use Rattle.command_texts.specs.Written.{member_data}
use Rattle.command_texts.proofs.binding.members_value.Goals as goal

pub returns : goal.returns
returns c =
    let all : map view c.loop-member.values.items ≡ map member_data c.args.members.now =
    c.loop-member.invariant ∙ ap (map member_data) (take_all c.loop-member.member-index c.args.members.now (omega arith)) in
    view-Array c.loop-member.values ∙ array_written member_data c.loop-member.values.items c.args.members.now all
