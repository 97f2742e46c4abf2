use Rattle.std.proofs.Common.{◌≡◌, ◌∙◌, ℕ, List, false, refl, ap}
use Rattle.serde_json.specs.View.{view}
use Rattle.serde_json.specs.Written.{has_float, compact_text}
use Rattle.serde_json.specs.declared.value.Value.{Object}
use Rattle.serde_json.proofs.Views.{view-Object}
use Rattle.sts_replies.specs.Replies.{issued_data}
use Rattle.sts_replies.proofs.reply.issued_text.Goals as goal

floatless : (token : List ℕ) (seconds : ℕ) (scope : List ℕ) → has_float (issued_data token seconds scope) ≡ false
unfolding issued_data
floatless token seconds scope = refl

pub returns : goal.returns
returns c =
    let members = c.put_issued.new.members in
    let built : view (Object members) ≡ issued_data c.args.token.now c.args.seconds c.args.scope.now = view-Object members ∙ c.in_ok-put_issued.ensures in
    let text = c.in_ok-to_string.ensures.text (ap has_float built ∙ floatless c.args.token.now c.args.seconds c.args.scope.now) in
    c.new.ensures ∙ text ∙ ap compact_text built
