use Rattle.std.proofs.Common.{◌≡◌, ◌∙◌, Bool, ◌&&◌, sym, ap, rules}
use Rattle.std.specs.Prelude.{Some}
use Rattle.std.specs.List.{list_all}
use Rattle.service_view.specs.View.{account_enabled, pool_enabled}
use Rattle.links.specs.Authority.{live}
use Rattle.links.specs.Chain.{Chain}
use Rattle.links.specs.State.{chain}
use Rattle.links.proofs.Held.{facts_live, from_facts, less, live_told, not_less}
use Rattle.links.proofs.authority.live.Goals as goal

pub returns-then-now-facts : goal.returns-then-now-facts
returns-then-now-facts c =
    let content = c.args.state.now.content in
    let now = c.args.now in
    let facts = c.facts_of-facts.result.now in
    let enabled = list_all (pool_enabled content.view) facts.pools && list_all (account_enabled content.view) facts.accounts in
    let is : c.are_enabled.result ≡ enabled = search rules in
    from_facts (facts_live content.view now) (λ (found : Chain). live content.view found now) (chain content c.args.number) facts
    (live_told content.view now) c.facts_of-facts.ensures
    ∙ ap (λ (b : Bool). Some (b && enabled)) (less now facts.exp c.if-now-facts.true) ∙ ap (λ (b : Bool). Some b) (sym is)

pub returns-else-now-facts : goal.returns-else-now-facts
returns-else-now-facts c =
    let content = c.args.state.now.content in
    let now = c.args.now in
    let facts = c.facts_of-facts.result.now in
    let enabled = list_all (pool_enabled content.view) facts.pools && list_all (account_enabled content.view) facts.accounts in
    let late = not_less now facts.exp c.if-now-facts.false in
    from_facts (facts_live content.view now) (λ (found : Chain). live content.view found now) (chain content c.args.number) facts
    (live_told content.view now) c.facts_of-facts.ensures
    ∙ ap (λ (b : Bool). Some (b && enabled)) late ∙ ap (λ (b : Bool). Some b) (sym late)
