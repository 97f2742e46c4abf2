use Rattle.std.proofs.lemmas.Grind.{common_steps}
use Rattle.std.proofs.Common.{arith}
use Rattle.serde_json.specs.View.{view}
use Rattle.sts_admin.proofs.ListedBindings.{short_bindings}
use Rattle.sts_admin.proofs.bindings.bindings_at.Goals as goal

pub returns-in-Some : goal.returns-in-Some
returns-in-Some c = let listed = short_bindings (view c.in-Some.bindings.now) in grind (arith, common_steps, listed)
