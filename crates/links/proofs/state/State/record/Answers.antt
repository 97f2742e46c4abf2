use Rattle.std.proofs.Common.{rules, ◌≡◌, ◌≤◌, ◌+◌, ◌++◌, ◌∷◌, [], ◌∙◌, List, refl, sym, ap, subst, map}
use Rattle.std.specs.Prelude.{Some, option_map, vec_len}
use Rattle.links.specs.declared.recorded.RecordedLink.{RecordedLink}
use Rattle.links.specs.Licence.{Licensed, Reached}
use Rattle.links.specs.Recorded.{recorded, link_of_recorded}
use Rattle.links.specs.State.{Content, Kept, after, made}
use Rattle.links.proofs.Held.{Pushed, pushed}
use Rattle.links.proofs.Journals.{reached_kept}
use Rattle.links.proofs.Replays.{reached-after}
use Rattle.links.proofs.state.State.record.Goals as goal

pub invariant_of-self : goal.invariant_of-self
invariant_of-self c =
    let i = c.self.inside in
    let rows = i.links.items in
    let before : Content = record { issuer = i.issuer; key = i.key; view = i.view.content; count = i.count; links = map link_of_recorded rows } in
    let same : before ≡ c.args.self.now.content = ap (λ (k : Kept). k.content) c.self.view_is in
    let e = c.args.entry in
    let few : vec_len c.push.new.self ≤ i.count + 1 = search rules in
    let items : c.push.new.self.items ≡ rows ++ c.args.issued.recorded ∷ [] = search rules in
    let row : Some c.args.issued.recorded ≡ option_map recorded (made before e) =
    c.requires.recorded ∙ ap (λ (k : Content). option_map recorded (made k e)) (sym same) in
    let behind : Pushed before e c.push.new.self.items =
    subst (λ (r : List RecordedLink). Pushed before e r) (sym items)
    (pushed before e rows c.args.issued.recorded refl c.self.invariant.1 (reached_kept before c.self.invariant.2).chains.good row) in
    let licensed : Licensed before e = subst (λ (k : Content). Licensed k e) (sym same) c.requires.licensed in
    (few, behind.held, subst Reached behind.content (reached-after before e c.self.invariant.2 c.requires.form licensed))

pub returns : goal.returns
returns c =
    let i = c.self.inside in
    let rows = i.links.items in
    let before : Content = record { issuer = i.issuer; key = i.key; view = i.view.content; count = i.count; links = map link_of_recorded rows } in
    let same : before ≡ c.args.self.now.content = ap (λ (k : Kept). k.content) c.self.view_is in
    let e = c.args.entry in
    let items : c.push.new.self.items ≡ rows ++ c.args.issued.recorded ∷ [] = search rules in
    let row : Some c.args.issued.recorded ≡ option_map recorded (made before e) =
    c.requires.recorded ∙ ap (λ (k : Content). option_map recorded (made k e)) (sym same) in
    let behind : Pushed before e c.push.new.self.items =
    subst (λ (r : List RecordedLink). Pushed before e r) (sym items)
    (pushed before e rows c.args.issued.recorded refl c.self.invariant.1 (reached_kept before c.self.invariant.2).chains.good row) in
    sym behind.content ∙ ap (λ (k : Content). after k e) same
