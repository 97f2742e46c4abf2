use Rattle.std.proofs.Common.{◌≡◌, ◌++◌}
use Rattle.serde_json.specs.View.{members_view}
use Rattle.cel_lines.specs.Environment.{bindings_of}
use Rattle.cel_lines.proofs.environment.environment_of.Given as goal

abbrev pub invariant-loop-name : goal.invariant-loop-name
invariant-loop-name l = bindings_of (members_view l.members.entries) ≡ l.env ++ bindings_of (members_view l.name-iterator)
