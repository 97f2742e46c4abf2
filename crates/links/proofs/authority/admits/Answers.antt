use Rattle.std.proofs.Common.{◌≡◌, ◌∙◌, Bool, true, ◌&&◌, sym, ap, rules}
use Rattle.std.specs.Prelude.{Option, None, Some, option_map, Result, Ok, Err, IfOk}
use Rattle.std.specs.declared.alloc.AllocError.{AllocError}
use Rattle.access_token.specs.declared.facts.Facts.{Facts}
use Rattle.allow_policy.specs.Granting.{granted}
use Rattle.iam_names.specs.declared.who.Who.{Who}
use Rattle.links.specs.Authority.{allows, live}
use Rattle.links.specs.Chain.{Chain}
use Rattle.links.specs.Facts.{who_of}
use Rattle.links.specs.State.{chain}
use Rattle.links.proofs.Held.{from_facts, who_told}
use Rattle.links.proofs.authority.admits.Goals as goal

-- both tests, where the first passes
both : (first second : Chain → Bool) (o : Option Chain) (answer : Bool) → option_map first o ≡ Some true → option_map second o ≡ Some answer
    → option_map (λ (found : Chain). first found && second found) o ≡ Some answer
both first second None answer is also = absurd (cc is)
both first second (Some found) answer is also = let passes : first found ≡ true = cc is in rw passes also

-- where it is live and allows, the grant decides
by_grant : (lives allowed granted_is : Chain → Bool) (o : Option Chain) (grant : Bool) (r : Result Bool AllocError)
    → option_map lives o ≡ Some true → option_map allowed o ≡ Some true → option_map granted_is o ≡ Some grant
    → IfOk r (λ (yes : Bool). yes ≡ grant)
    → IfOk r (λ (yes : Bool). option_map (λ (found : Chain). lives found && (allowed found && granted_is found)) o ≡ Some yes)
by_grant lives allowed granted_is o grant (Ok answer) live_now allows_it is told =
    both lives (λ (found : Chain). allowed found && granted_is found) o answer live_now
    (both allowed granted_is o answer allows_it (is ∙ ap (λ (b : Bool). Some b) (sym told)))
by_grant lives allowed granted_is o grant (Err fault) live_now allows_it is told = tt

pub returns : goal.returns
returns c =
    let content = c.args.state.now.content in
    let view = content.view in
    let permission = c.args.permission.now in
    let resource = c.args.resource.now in
    let now = c.args.now in
    let o = chain content c.args.number in
    let facts = c.facts_of.result.now in
    let grant = granted view.lists facts.who permission resource now in
    let lives : option_map (λ (found : Chain). live view found now) o ≡ Some true = c.live.ensures ∙ ap (λ (b : Bool). Some b) c.if-not-live.false in
    let allowed : option_map (λ (found : Chain). allows view found permission resource now) o ≡ Some true =
    c.in_ok-allows.ensures ∙ ap (λ (b : Bool). Some b) c.if-not-branch.false in
    let told : IfOk c.is_granted.result (λ (yes : Bool). yes ≡ grant) = search rules in
    by_grant (λ (found : Chain). live view found now) (λ (found : Chain). allows view found permission resource now)
    (λ (found : Chain). granted view.lists (who_of found) permission resource now) o grant c.is_granted.result lives allowed
    (from_facts (λ (f : Facts). granted view.lists f.who permission resource now)
    (λ (found : Chain). granted view.lists (who_of found) permission resource now) o facts
    (λ found. ap (λ (w : Who). granted view.lists w permission resource now) (who_told found)) c.facts_of.ensures)
    told
