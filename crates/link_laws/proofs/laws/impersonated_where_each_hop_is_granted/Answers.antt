use Rattle.link_laws.proofs.Granted.{each_enabled, each_reached}
use Rattle.link_laws.proofs.laws.impersonated_where_each_hop_is_granted.Goals as goal

pub returns-clause-enabled : goal.returns-clause-enabled
returns-clause-enabled c = each_enabled

pub returns-clause-hops : goal.returns-clause-hops
returns-clause-hops c = each_reached
