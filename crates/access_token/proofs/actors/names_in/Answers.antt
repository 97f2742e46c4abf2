use Rattle.std.proofs.Common.{◌∙◌, refl, sym, ap, option_map, arith}
use Rattle.serde_json.specs.View.{view}
use Rattle.access_token.proofs.Steps.{names-begin, names-more}
use Rattle.access_token.proofs.actors.names_in.Goals as goal

pub loop-depth-init : goal.loop-depth-init
loop-depth-init c = names-begin c.args.name.now (option_map (λ value. view value.now) c.args.outermost) c.new-names.result c.new-names.ensures

pub loop-depth-preserved : goal.loop-depth-preserved
loop-depth-preserved c =
    names-more c.args.name.now _ c.loop-depth.names c.push.new.self c.in-Some-text_at.text.now c.loop-depth._depth (view c.in-Some.object.now) _ _ (omega arith) c.loop-depth.invariant
    (ap (option_map (λ value. view value.now)) c.in-Some.is)
    (sym c.text_at.ensures ∙ ap (option_map (λ text. text.now)) c.in-Some-text_at.is)
    c.get-left.ensures (rw (c.in_ok-push.ensures.ok, c.in_ok-copy_of.ensures) refl)
