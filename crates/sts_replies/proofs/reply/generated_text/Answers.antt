use Rattle.std.proofs.Common.{◌≡◌, ◌∙◌, List, ℕ, false, refl, ap}
use Rattle.serde_json.specs.View.{view}
use Rattle.serde_json.specs.Written.{has_float, compact_text}
use Rattle.serde_json.specs.declared.value.Value.{Object}
use Rattle.serde_json.proofs.Views.{view-Object}
use Rattle.sts_replies.specs.Replies.{generated_data}
use Rattle.sts_replies.proofs.reply.generated_text.Goals as goal

floatless : (token time : List ℕ) → has_float (generated_data token time) ≡ false
unfolding generated_data
floatless token time = refl

pub returns : goal.returns
returns c =
    let members = c.put_generated.new.members in
    let built : view (Object members) ≡ generated_data c.args.token.now c.args.time.now = view-Object members ∙ c.in_ok-put_generated.ensures in
    let text = c.in_ok-to_string.ensures.text (ap has_float built ∙ floatless c.args.token.now c.args.time.now) in
    c.new.ensures ∙ text ∙ ap compact_text built
