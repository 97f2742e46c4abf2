use Rattle.std.proofs.Common.{◌≡◌}
use Rattle.serde_json.specs.View.{members_view}
use Rattle.sts_admin.specs.Mappings.{attributes_in}
use Rattle.sts_admin.proofs.mapping.put_attributes.Given as goal

abbrev pub invariant-loop-key : goal.invariant-loop-key
invariant-loop-key l = attributes_in (members_view l.members.entries) l.initial.found ≡ attributes_in (members_view l.key-iterator) l.found
