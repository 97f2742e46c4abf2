use Rattle.std.proofs.Common.{◌≡◌, ◌++◌, length, codes, ◌∙◌, ap}
use Rattle.std.specs.String.{string_bytes}
use Rattle.client_proto.specs.Requests.{account_body, account_text, bearer_line, closed_by, front_lines, line}
use Rattle.client_proto.proofs.request.account_request.Goals as goal

pub returns : goal.returns
unfolding account_text
returns c =
    let front = front_lines c.args.url.now (codes "application/json") (length account_body) in
    let token = c.args.token.now in
    let begun : string_bytes c.in_ok-text.text ≡ front = c.in_ok-text.ensures in
    let bearer : c.as_str.result.now ≡ bearer_line token = c.as_str.ensures.value ∙ c.in_ok-bearer_line.ensures in
    let lined : string_bytes c.put_line.new.text ≡ front ++ line (bearer_line token) =
    c.in_ok-put_line.ensures ∙ ap (λ x. x ++ line c.as_str.result.now) begun ∙ ap (λ x. front ++ line x) bearer in
    c.new.ensures ∙ ap (λ (v : _). v.items) c.into_bytes.ensures.value ∙ c.in_ok-put_end.ensures ∙ ap (λ x. closed_by x account_body) lined
