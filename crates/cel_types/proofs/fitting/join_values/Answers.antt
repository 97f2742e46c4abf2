use Rattle.cel_types.proofs.Joined.{values_step}
use Rattle.cel_types.proofs.fitting.join_values.Goals as goal

pub loop-key-preserved : goal.loop-key-preserved
loop-key-preserved c = values_step _ _ _ _ _ _ _ c.in-Some-pop.ensures c.in-Some-pop.t-is c.join-more.ensures c.loop-key.invariant
