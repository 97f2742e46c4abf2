use Rattle.std.proofs.Common.{◌≡◌, ◌∙◌, ◌≤◌, ℕ, List, sym, ap, arith, rules, length}
use Rattle.std.specs.Prelude.{Option, Some, None, option_map}
use Rattle.std.specs.Str.{bytes_eq}
use Rattle.std.proofs.lemmas.Option.{slice_get_past}
use Rattle.links.specs.Chain.{Chain}
use Rattle.links.specs.Issued.{is_text_of}
use Rattle.links.specs.State.{Content, chain, token_text}
use Rattle.links.proofs.Issuing.{chain-missing}
use Rattle.links.proofs.issued.is_token_of.Goals as goal

by_token : (c : Content) (text token : List ℕ) (o : Option Chain) → option_map (token_text c) o ≡ Some token → bytes_eq token text ≡ is_text_of c text o
by_token c text token None is = absurd (cc is)
by_token c text token (Some found) is = let same : token_text c found ≡ token = cc is in ap (λ (t : List ℕ). bytes_eq t text) (sym same)

pub returns-then-number-link_count : goal.returns-then-number-link_count
returns-then-number-link_count c =
    let content = c.args.state.now.content in
    let past : length content.links ≤ c.args.number = omega arith in
    sym (ap (λ (o : Option Chain). is_text_of content c.args.text.now o)
    (chain-missing content c.args.number (slice_get_past content.links c.args.number past)))

pub returns : goal.returns
returns c =
    let content = c.args.state.now.content in
    let same : c.eq.result ≡ bytes_eq c.in_ok-token.token c.args.text.now = search rules in
    same ∙ by_token content c.args.text.now c.in_ok-token.token (chain content c.args.number) c.in_ok-token.ensures
