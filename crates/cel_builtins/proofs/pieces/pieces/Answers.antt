use Rattle.std.proofs.Common.{◌≡◌, ◌++◌, ◌∷◌, [], map, Some, ap, sym, ◌∙◌, rules, append_assoc}
use Rattle.cel_values.specs.declared.value.Value.TheVariants as variant
use Rattle.cel_builtins.specs.Texts.{pieces, cut_around, text_value}
use Rattle.cel_builtins.proofs.Splits.{pieces_some, shorter}
use Rattle.cel_builtins.proofs.pieces.pieces.Goals as goal

pub loop-piece-smaller : goal.loop-piece-smaller
loop-piece-smaller c =
    let found : cut_around c.args.separator.now c.loop-piece.rest.now ≡ Some (c.in-Some.piece.now, c.in-Some.behind.now) = sym c.in-Some.ensures in
    shorter c.args.separator.now c.loop-piece.rest.now (c.in-Some.piece.now, c.in-Some.behind.now) c.requires found

pub loop-piece-preserved : goal.loop-piece-preserved
loop-piece-preserved c = record {
  value =
      let found : cut_around c.args.separator.now c.loop-piece.rest.now ≡ Some (c.in-Some.piece.now, c.in-Some.behind.now) = sym c.in-Some.ensures in
      let next = pieces_some c.args.separator.now c.loop-piece.rest.now c.in-Some.piece.now c.in-Some.behind.now c.requires found in
      let rest = map text_value (pieces c.args.separator.now c.in-Some.behind.now) in
      let copied : c.in_ok-copy_of.field-0 ≡ c.in-Some.piece.now = c.in_ok-copy_of.ensures in
      let pushed : c.push.new.self ≡ c.loop-piece.all ++ variant.Text c.in_ok-copy_of.field-0 ∷ [] = c.in_ok-push.ensures.ok in
      ap (λ x. x ++ rest) pushed
      ∙ append_assoc c.loop-piece.all (variant.Text c.in_ok-copy_of.field-0 ∷ []) rest
      ∙ ap (λ t. c.loop-piece.all ++ (variant.Text t ∷ rest)) copied
      ∙ ap (λ ps. c.loop-piece.all ++ map text_value ps) (sym next)
      ∙ c.loop-piece.invariant.value;
  text = search rules;
}
