use Rattle.std.proofs.Common.{◌≡◌, ◌∙◌, ap}
use Rattle.serde_json.specs.View.{view}
use Rattle.serde_json.specs.Written.{has_float, compact_text}
use Rattle.serde_json.specs.declared.value.Value.{Object}
use Rattle.serde_json.proofs.Views.{view-Object}
use Rattle.access_token.specs.Payload.{payload_data, payload_text}
use Rattle.access_token.proofs.Floats.{payload_floatless}
use Rattle.access_token.proofs.payload.write_payload.Goals as goal

pub returns : goal.returns
unfolding payload_text
returns c =
    let facts = c.args.facts.now in
    let members = c.put_claims.new.members in
    let built : view (Object members) ≡ payload_data c.args.issuer.now facts = view-Object members ∙ c.in_ok-put_claims.ensures in
    let text = c.in_ok-to_string.ensures.text (ap has_float built ∙ payload_floatless c.args.issuer.now facts) in
    c.new.ensures ∙ text ∙ ap compact_text built
