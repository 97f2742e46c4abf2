use Rattle.std.proofs.Common.{◌≡◌, ◌≤◌, ◌∙◌, ℕ, length, sym, ap, arith}
use Rattle.std.specs.Prelude.{Option, Some, None, option_and_then}
use Rattle.std.proofs.lemmas.Option.{slice_get_past}
use Rattle.std.proofs.lemmas.Result.{IfOk-weaker}
use Rattle.links.specs.Chain.{Chain}
use Rattle.links.specs.Issued.{issued_link}
use Rattle.links.specs.State.{chain}
use Rattle.links.proofs.Issuing.{chain-missing}
use Rattle.sts_core.specs.Check.{issued_chain}
use Rattle.sts_core.specs.Machine.{told}
use Rattle.sts_core.proofs.introspection.tell.Goals as goal

pub returns-then-number-link_count : goal.returns-then-number-link_count
returns-then-number-link_count c =
    let content = c.args.state.now.content in
    let past : length content.links ≤ c.in-Some.number = omega arith in
    let number : issued_link content c.args.token.now ≡ Some c.in-Some.number = sym c.in_ok-number.ensures ∙ c.in-Some.is in
    let is : issued_chain content c.args.token.now ≡ None =
    ap (λ (n : Option ℕ). option_and_then (chain content) n) number
    ∙ chain-missing content c.in-Some.number (slice_get_past content.links c.in-Some.number past) in
    IfOk-weaker c.inactive-then-number-link_count.result _ _
    (λ reply tells. tells ∙ ap (λ (o : Option Chain). told content c.args.now o) (sym is))
    c.inactive-then-number-link_count.ensures
