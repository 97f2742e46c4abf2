use Rattle.std.proofs.Common.{◌≡◌, map, take}
use Rattle.serde_json.specs.View.{view}
use Rattle.command_texts.specs.Written.{member_data}
use Rattle.command_texts.proofs.binding.members_value.Given as goal

abbrev pub invariant-loop-member : goal.invariant-loop-member
invariant-loop-member l = map view l.values.items ≡ map member_data (take l.member-index l.members)
