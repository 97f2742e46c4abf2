use Rattle.link_laws.proofs.Granted.{acted_for}
use Rattle.link_laws.proofs.laws.delegated_where_the_subject_names_the_actor.Goals as goal

pub returns : goal.returns
returns c = acted_for
