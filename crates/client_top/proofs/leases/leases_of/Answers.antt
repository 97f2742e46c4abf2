use Rattle.std.proofs.Common.{◌≡◌, Vec, Global, ℕ, map, ◌∙◌, ap, rules}
use Rattle.renewer.specs.Flights.{Flown, IsSound}
use Rattle.client_top.specs.declared.outcome.Outcome.{Outcome}
use Rattle.client_top.proofs.Leasing.{leased_of}
use Rattle.client_top.proofs.leases.leases_of.Goals as goal

pub returns-in-Ok-run_workers-clause-leased : goal.returns-in-Ok-run_workers-clause-leased
returns-in-Ok-run_workers-clause-leased g c =
    let begun : Flown g.row.L.Denot = c.new-flight.result in
    let ended : Flown g.row.L.Denot = c.close.result in
    let same : c.in-Ok.made.0.client ≡ begun = c.in-Ok.ensures.shared.1 in
    let sound : IsSound ended.config ended.margin ended.history (g.L.Link.calls ended.first) (g.L.Link.calls ended.link) = search rules in
    let margin : ended.margin ≡ begun.margin = c.close.ensures.client.0 ∙ ap (λ (f : Flown g.row.L.Denot). f.margin) same in
    let config : ended.config ≡ begun.config = c.close.ensures.client.1 ∙ ap (λ (f : Flown g.row.L.Denot). f.config) same in
    let first : g.L.Link.calls ended.first ≡ g.L.Link.calls begun.first = c.close.ensures.before
    ∙ ap (λ (f : Flown g.row.L.Denot). g.L.Link.calls f.first) same in
    leased_of g.L.Link.faults g.L.Link.calls g.L.Link.lender c.args.margin c.args.client c.args.link _ begun
    c.new-flight.ensures.parts.0 c.new-flight.ensures.parts.1 c.new-flight.ensures.parts.2 c.new-flight.ensures.first
    (map (λ (list : Vec ℕ Global). list.items) c.args.moments.now) (map (λ (list : Vec Outcome Global). list.items) c.in-Ok-run_workers.lists.items)
    c.in-Ok.made.1.view c.run_workers.new.pass.view ended c.in-Ok.ensures.view c.in-Ok-run_workers.ensures.facts c.in-Ok-run_workers.ensures.outcomes
    c.in-Ok-run_workers.ensures.lost (margin, config) first c.close.ensures.seen c.close.ensures.waste c.close.ensures.left c.close.ensures.lost sound.told
