use Rattle.std.proofs.Common.{◌≡◌, ◌∙◌, ℕ, List, sym, ap, rules}
use Rattle.std.specs.Prelude.{Some, Option, None, option_map}
use Rattle.hmac_jws.specs.Compact.{compact}
use Rattle.access_token.specs.Payload.{payload_text}
use Rattle.links.specs.Chain.{Chain}
use Rattle.links.specs.Facts.{facts_of}
use Rattle.links.specs.State.{Content, chain, token_text}
use Rattle.links.proofs.Held.{text_told}
use Rattle.links.proofs.numbered.render.Goals as goal

by_payload : (c : Content) (o : Option Chain) (payload : List ℕ) → option_map (λ found. payload_text c.issuer (facts_of found)) o ≡ Some payload
    → option_map (token_text c) o ≡ Some (compact c.key payload)
by_payload c None payload is = absurd (cc is)
by_payload c (Some found) payload is =
    let same : payload_text c.issuer (facts_of found) ≡ payload = cc is in
    ap (λ (t : List ℕ). Some t) (text_told c found ∙ ap (compact c.key) same)

pub returns : goal.returns
returns c =
    let content = c.args.state.now.content in
    let text : c.new.result ≡ compact content.key c.in_ok-payload.payload = search rules in
    by_payload content (chain content c.args.number) c.in_ok-payload.payload c.in_ok-payload.ensures ∙ ap (λ (t : List ℕ). Some t) (sym text)
