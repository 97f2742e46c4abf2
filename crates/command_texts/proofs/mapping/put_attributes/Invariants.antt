use Rattle.std.proofs.Common.{◌≡◌}
use Rattle.base_types.specs.Named.{by_bytes}
use Rattle.serde_json.specs.Data.{no_members}
use Rattle.serde_json.specs.View.{members_view}
use Rattle.json_text.specs.Clean.{HasCleanMembers}
use Rattle.json_text.proofs.CleanTexts.{followed, AreBefore}
use Rattle.command_texts.specs.Written.{with_attributes}
use Rattle.command_texts.proofs.mapping.put_attributes.Given as goal

abbrev pub invariant-loop-name : goal.invariant-loop-name
invariant-loop-name l = record {
  so_far : with_attributes l.attributes no_members ≡ followed (members_view l.members.entries) (with_attributes (by_bytes l.name-iterator) no_members);
  before : AreBefore (members_view l.members.entries) (with_attributes (by_bytes l.name-iterator) no_members);
  clean : HasCleanMembers (with_attributes (by_bytes l.name-iterator) no_members);
}
