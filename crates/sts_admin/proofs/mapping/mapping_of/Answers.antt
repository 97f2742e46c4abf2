use Rattle.serde_json.specs.View.{view}
use Rattle.sts_admin.proofs.FormedMappings.{attributes_named}
use Rattle.sts_admin.proofs.mapping.mapping_of.Goals as goal

pub returns-clause-names : goal.returns-clause-names
returns-clause-names c =
    let read = rw c.in_ok-subject-3.ensures.both.1 at c.attributes_of.ensures in
    attributes_named (view c.args.json.now) c.in_ok-subject-3.attributes read
