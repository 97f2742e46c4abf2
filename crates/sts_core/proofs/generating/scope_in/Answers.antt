use Rattle.std.proofs.Common.{◌≡◌, ◌≤◌, length, true, sym, ap, ◌∙◌}
use Rattle.std.specs.Prelude.{option_map}
use Rattle.std.specs.List.{list_all}
use Rattle.base_types.specs.Steps.{needed}
use Rattle.links.specs.Licence.{knows_word}
use Rattle.serde_json.specs.View.{view}
use Rattle.sts_core.specs.Generated.{scope_of}
use Rattle.sts_replies.specs.declared.generate_rule.GenerateRule.TheVariants.{I5}
use Rattle.sts_core.proofs.FormedImpersonations.{not_empty, scope_said}
use Rattle.sts_core.proofs.generating.scope_in.Goals as goal

pub returns-then-knows_words : goal.returns-then-knows_words
returns-then-knows_words c =
    let content = c.args.state.now.content in
    let some : 1 ≤ length c.in-Ok.words =
    not_empty c.in-Ok.words (λ none. cc (c.is_empty.ensures.1 none, c.if-not-is_empty.true)) in
    let known : list_all (knows_word content) c.in-Ok.words ≡ true =
    ap (list_all (knows_word content)) (sym c.as_slice.ensures) ∙ sym c.knows_words.ensures ∙ c.if-knows_words.true in
    let said = scope_said content (view c.in-Some.json.now) c.in-Ok.words c.in-Ok.ensures some known in
    let there = ap (option_map (λ json. view json.now)) c.in-Some.is in
    ap (λ d. needed I5 (scope_of content d)) there ∙ ap (needed I5) said
