use Rattle.std.proofs.Common.{◌≡◌, ◌+◌, sym, ap, subst, arith, map}
use Rattle.service_view.specs.Puts.{command_of}
use Rattle.service_view.specs.View.{View}
use Rattle.links.specs.declared.entry.Entry.TheVariants as entry
use Rattle.links.specs.Licence.{Licensed, Reached}
use Rattle.links.specs.Recorded.{link_of_recorded}
use Rattle.links.specs.State.{Content, Kept}
use Rattle.links.proofs.Replays.{reached-after}
use Rattle.links.proofs.state.State.put.Goals as goal

pub invariant_of-self : goal.invariant_of-self
invariant_of-self c =
    let i = c.self.inside in
    let before : Content = record { issuer = i.issuer; key = i.key; view = i.view.content; count = i.count; links = map link_of_recorded i.links.items } in
    let same : before ≡ c.args.self.now.content = ap (λ (k : Kept). k.content) c.self.view_is in
    let e = entry.Put (command_of c.args.ready) in
    let reached = reached-after before e c.self.invariant.2 c.requires.form (subst (λ (k : Content). Licensed k e) (sym same) c.requires.licensed) in (
      omega (arith, c.self.invariant.0),
      c.self.invariant.1,
      subst (λ (v : View). Reached (record { issuer = i.issuer; key = i.key; view = v; count = i.count + 1; links = map link_of_recorded i.links.items }))
          (sym c.place.ensures) reached,
    )
