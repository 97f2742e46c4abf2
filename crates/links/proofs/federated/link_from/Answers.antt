use Rattle.std.proofs.Common.{◌≡◌, ◌∷◌, [], ◌∙◌, ℕ, List, ap}
use Rattle.links.specs.declared.federated.Shown.{Shown}
use Rattle.links.specs.Chain.{Root}
use Rattle.links.specs.Recorded.{recorded}
use Rattle.links.proofs.federated.link_from.Goals as goal

pub returns-in-Ok-clause-link : goal.returns-in-Ok-clause-link
returns-in-Ok-clause-link c =
    let words = c.args.exchange.now.scope in
    let scopes : c.in-Ok.shown.scopes ≡ words ∷ [] = ap (λ (s : Shown). s.scopes) c.in-Ok.ensures ∙ ap (λ (w : List (List ℕ)). w ∷ []) c.as_slice.ensures in
    c.recorded_link.ensures words scopes
    ∙ ap (λ (n : ℕ). recorded (Root (record { number = n; at = c.args.exchange.now.at; words = words }) c.args.source)) c.link_count.ensures.count
