use Rattle.std.proofs.Common.{◌≡◌, ◌∙◌, Bool, true, false, ◌&&◌, List, ℕ, rules, sym, ap}
use Rattle.std.specs.Prelude.{Some, Option, option_map, Result, Ok, Err, IfOk}
use Rattle.std.specs.List.{list_all}
use Rattle.std.specs.declared.alloc.AllocError.{AllocError}
use Rattle.allow_policy.specs.Granting.{scope_allows}
use Rattle.boundary.specs.Allowing.{boundary_allows}
use Rattle.boundary.specs.declared.rules.Boundary.{Boundary}
use Rattle.links.specs.Authority.{allows}
use Rattle.links.specs.Chain.{Chain}
use Rattle.links.specs.State.{chain}
use Rattle.links.proofs.Held.{allows_told, facts_allow, from_facts}
use Rattle.links.proofs.authority.allows.Goals as goal

-- where the words allow it, the boundaries decide
by_bounds : (o : Option Bool) (words bounds : Bool) (r : Result Bool AllocError) → o ≡ Some (words && bounds) → words ≡ true
    → IfOk r (λ (yes : Bool). yes ≡ bounds) → IfOk r (λ (yes : Bool). o ≡ Some yes)
by_bounds o words bounds (Ok answer) is all told = is ∙ ap (λ (b : Bool). Some (b && bounds)) all ∙ ap (λ (b : Bool). Some b) (sym told)
by_bounds o words bounds (Err fault) is all told = tt

pub returns-then-not-words_allow : goal.returns-then-not-words_allow
returns-then-not-words_allow c =
    let content = c.args.state.now.content in
    let permission = c.args.permission.now in
    let resource = c.args.resource.now in
    let now = c.args.now in
    let facts = c.facts_of-facts.result.now in
    let bounds = list_all (λ (boundary : Boundary). boundary_allows content.view.lists.roles boundary permission resource now) facts.bounds in
    let words : list_all (λ (words : List (List ℕ)). scope_allows content.view.lists words permission) facts.scopes ≡ false = search rules in
    from_facts (facts_allow content.view permission resource now) (λ (found : Chain). allows content.view found permission resource now)
    (chain content c.args.number) facts (allows_told content.view permission resource now) c.facts_of-facts.ensures
    ∙ ap (λ (b : Bool). Some (b && bounds)) words

pub returns : goal.returns
returns c =
    let content = c.args.state.now.content in
    let permission = c.args.permission.now in
    let resource = c.args.resource.now in
    let now = c.args.now in
    let facts = c.facts_of-facts.result.now in
    let words = list_all (λ (words : List (List ℕ)). scope_allows content.view.lists words permission) facts.scopes in
    let bounds = list_all (λ (boundary : Boundary). boundary_allows content.view.lists.roles boundary permission resource now) facts.bounds in
    let all : words ≡ true = search rules in
    let told : IfOk c.bounds_allow.result (λ (yes : Bool). yes ≡ bounds) = search rules in
    by_bounds (option_map (λ (found : Chain). allows content.view found permission resource now) (chain content c.args.number)) words bounds
    c.bounds_allow.result
    (from_facts (facts_allow content.view permission resource now) (λ (found : Chain). allows content.view found permission resource now)
    (chain content c.args.number) facts (allows_told content.view permission resource now) c.facts_of-facts.ensures)
    all told
