use Rattle.std.proofs.Common.{◌≡◌}
use Rattle.base_types.specs.Named.{by_bytes}
use Rattle.serde_json.specs.View.{members_view}
use Rattle.json_text.specs.Clean.{HasCleanMembers}
use Rattle.json_text.proofs.CleanTexts.{followed, AreBefore}
use Rattle.access_token.specs.Payload.{attributes_data}
use Rattle.access_token.proofs.payload.attributes_value.Given as goal

abbrev pub invariant-loop-name : goal.invariant-loop-name
invariant-loop-name l =
    (attributes_data l.attributes ≡ followed (members_view l.members.entries) (attributes_data (by_bytes l.name-iterator)))
    × AreBefore (members_view l.members.entries) (attributes_data (by_bytes l.name-iterator))
    × HasCleanMembers (attributes_data (by_bytes l.name-iterator))
