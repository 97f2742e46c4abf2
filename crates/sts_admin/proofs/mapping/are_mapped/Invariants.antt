use Rattle.std.proofs.Common.{◌≡◌}
use Rattle.serde_json.specs.View.{members_view}
use Rattle.sts_admin.specs.Mappings.{are_mapped}
use Rattle.sts_admin.proofs.mapping.are_mapped.Given as goal

abbrev pub invariant-loop-key : goal.invariant-loop-key
invariant-loop-key l = are_mapped (members_view l.members.entries) ≡ are_mapped (members_view l.key-iterator)
