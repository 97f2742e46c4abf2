use Rattle.link_laws.proofs.Counted.{same_with_another}
use Rattle.link_laws.proofs.laws.what_limits_an_actor_does_not_count.Goals as goal

pub returns : goal.returns
returns c = same_with_another
