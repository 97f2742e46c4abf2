use Rattle.std.proofs.Common.{◌≡◌, List, ℕ, length, codes, ◌∙◌, ap}
use Rattle.std.specs.String.{string_bytes}
use Rattle.client_proto.specs.Requests.{closed_by, exchange_form, exchange_text, front_lines}
use Rattle.client_proto.proofs.request.exchange_request.Goals as goal

pub returns : goal.returns
unfolding exchange_text
returns c =
    let url = c.args.config.now.token in
    let type = codes "application/x-www-form-urlencoded" in
    let form : c.as_str-body.result.now ≡ exchange_form c.args.config.now c.args.subject.now = c.as_str-body.ensures.value ∙ c.in_ok-body.ensures in
    let written : string_bytes c.put_end.new.text ≡ closed_by (front_lines url type (length c.as_str-body.result.now)) c.as_str-body.result.now =
    c.in_ok-put_end.ensures ∙ ap (λ x. closed_by x c.as_str-body.result.now) c.in_ok-text.ensures in
    c.new.ensures ∙ ap (λ (v : _). v.items) c.into_bytes.ensures.value ∙ written ∙ ap (λ (body : List ℕ). closed_by (front_lines url type (length body)) body) form
