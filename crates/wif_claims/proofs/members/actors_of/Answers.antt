use Rattle.std.proofs.Common.{◌∙◌, refl, sym, ap, option_map, arith}
use Rattle.serde_json.specs.View.{view}
use Rattle.wif_claims.proofs.ActorLists.{actors-more, actors-none}
use Rattle.wif_claims.proofs.HeldForms.{all-pushed}
use Rattle.wif_claims.proofs.members.actors_of.Goals as goal

pub returns-in_default-actor_of_object-clause-found : goal.returns-in_default-actor_of_object-clause-found
returns-in_default-actor_of_object-clause-found c =
    actors-none _ c.loop-depth.found c.loop-depth._depth (view c.in-Some.object.now) _ (omega arith) c.loop-depth.invariant.so_far
    (ap (option_map (λ v. view v.now)) c.in-Some.is)
    (sym c.actor_of_object.ensures.found ∙ ap (option_map (λ text. text.now)) c.in_default-actor_of_object.is)

pub loop-depth-preserved : goal.loop-depth-preserved
loop-depth-preserved c = record {
  so_far =
      actors-more _ c.loop-depth.found c.push.new.self c.in-Some-actor_of_object.actor.now c.loop-depth._depth (view c.in-Some.object.now) _ _ (omega arith) c.loop-depth.invariant.so_far
      (ap (option_map (λ v. view v.now)) c.in-Some.is)
      (sym c.actor_of_object.ensures.found ∙ ap (option_map (λ text. text.now)) c.in-Some-actor_of_object.is)
      c.get-left.ensures (rw (c.in_ok-push.ensures.ok, c.in_ok-copy_of.ensures) refl);
  utf8 = rw (c.in_ok-push.ensures.ok, c.in_ok-copy_of.ensures) (all-pushed c.loop-depth.found c.in-Some-actor_of_object.actor.now c.loop-depth.invariant.utf8 c.in-Some-actor_of_object.ensures.utf8);
}
