use Rattle.std.proofs.Common.{◌∙◌, ap}
use Rattle.serde_json.specs.Written.{has_float, compact_text}
use Rattle.entry_texts.specs.Written.{entry_text}
use Rattle.entry_texts.proofs.Floats.{entry_floatless}
use Rattle.entry_texts.proofs.writing.entry_text.Goals as goal

pub returns : goal.returns
unfolding entry_text
returns c =
    let built = c.in_ok-value.ensures in
    let text = c.in_ok-to_string.ensures.text (ap has_float built ∙ entry_floatless c.args.entry.now) in
    c.new.ensures ∙ text ∙ ap compact_text built
