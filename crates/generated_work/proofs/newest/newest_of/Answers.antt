use Rattle.std.proofs.Common.{◌≡◌, ℕ, ◌-◌, [], length, Some, refl, sym, ap, ◌∙◌}
use Rattle.std.proofs.lemmas.Result.{IfOk-weaker}
use Rattle.std.specs.Prelude.{option_map}
use Rattle.links.specs.State.{chain, token_text}
use Rattle.generated_work.specs.Run.{newest_token}
use Rattle.generated_work.proofs.LastToken.{last_newest, none_newest}
use Rattle.generated_work.proofs.newest.newest_of.Goals as goal

pub returns-then-links-eq0 : goal.returns-then-links-eq0
returns-then-links-eq0 c =
    let content = c.args.state.now.content in
    let none : length c.args.state.now.content.links ≡ 0 = sym c.link_count-links.ensures.count ∙ c.if-links-eq0.true in
    IfOk-weaker c.copy_of.result (λ token. token ≡ []) (λ token. token ≡ newest_token content)
    (λ token e. e ∙ sym (none_newest content content.links refl none)) c.copy_of.ensures

pub returns : goal.returns
returns c =
    let content = c.args.state.now.content in
    let number = c.link_count-links.result - 1 in
    IfOk-weaker c.render.result (λ token. option_map (token_text content) (chain content number) ≡ Some token) (λ token. token ≡ newest_token content)
    (λ token e. last_newest content number token (ap (λ (n : ℕ). n - 1) c.link_count-links.ensures.count) e) c.render.ensures
