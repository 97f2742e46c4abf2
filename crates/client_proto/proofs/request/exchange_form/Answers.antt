use Rattle.std.proofs.Common.{◌≡◌, ◌∙◌, ℕ, List, [], codes, ap}
use Rattle.iam_names.specs.Audience.{audience_text}
use Rattle.client_proto.specs.Requests.{exchange_form}
use Rattle.client_proto.proofs.FormLemmas.{added, six_pairs}
use Rattle.client_proto.proofs.request.exchange_form.Goals as goal

pub returns : goal.returns
unfolding exchange_form
returns c =
    let config = c.args.config.now in
    let empty : c.new-form.result ≡ record { prefix = []; form = [] } = c.new-form.ensures ∙ ap (λ (l : List ℕ). record { prefix = []; form = l }) c.new.ensures.bytes in
    let name : c.as_str.result.now ≡ audience_text config.audience = c.as_str.ensures ∙ c.in_ok-audience.ensures in
    c.finish.ensures
    ∙ six_pairs c.new-form.result c.append_pair.new.self c.append_pair-2.new.self c.append_pair-3.new.self c.append_pair-4.new.self c.append_pair-5.new.self c.append_pair-6.new.self
    (codes "audience", audience_text config.audience) (codes "grant_type", codes "urn:ietf:params:oauth:grant-type:token-exchange")
    (codes "requested_token_type", codes "urn:ietf:params:oauth:token-type:access_token") (codes "scope", codes "https://www.googleapis.com/auth/cloud-platform")
    (codes "subject_token", c.args.subject.now) (codes "subject_token_type", config.token_type)
    empty (c.in_ok-append_pair.ensures.ok ∙ ap (λ (l : List ℕ). added c.new-form.result (codes "audience", l)) name)
    c.in_ok-append_pair-2.ensures.ok c.in_ok-append_pair-3.ensures.ok c.in_ok-append_pair-4.ensures.ok c.in_ok-append_pair-5.ensures.ok
    (c.in_ok-append_pair-6.ensures.ok ∙ ap (λ (l : List ℕ). added c.append_pair-5.new.self (codes "subject_token_type", l)) c.as_str-2.ensures)
