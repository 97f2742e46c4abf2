use Rattle.std.proofs.Common.{◌≡◌, ◌++◌, take, get_or, ap, ◌∙◌, arith, length}
use Rattle.std.specs.String.{string_bytes}
use Rattle.cel_builtins.specs.Texts.{joined}
use Rattle.cel_builtins.proofs.Joins.{joined_step, too_long}
use Rattle.cel_builtins.proofs.pieces.joined.Goals as goal
use Rattle.cel_builtins.proofs.pieces.joined.Goals.{then-index-gt0+in_ok-push_str, else-index-gt0}

pub returns-then-len : goal.returns-then-len
returns-then-len c =
    too_long c.args.separator.now c.args.texts.now c.loop-index.index
    (let e : string_bytes c.loop-index.all ≡ joined c.args.separator.now (take c.loop-index.index c.args.texts.now) = c.loop-index.invariant in
    let n = ap length e in
    omega (arith, n, c.if-len.true, c.len.ensures))

pub loop-index-preserved : goal.loop-index-preserved
loop-index-preserved c =
    let before : string_bytes c.loop-index.all ≡ joined c.args.separator.now (take c.loop-index.index c.args.texts.now) = c.loop-index.invariant in
    let text : c.as_str.result.now ≡ get_or c.args.texts.now c.loop-index.index c.index-texts-index.result = c.as_str.ensures ∙ c.index-texts-index.is in
    let pushed : string_bytes c.push_str-in-loop-index.new.self ≡ string_bytes c.if-index-gt0.all ++ c.as_str.result.now = c.in_ok-push_str-2.ensures.bytes in
    pushed ∙ ap (λ t. string_bytes c.if-index-gt0.all ++ t) text
    ∙ joined_step c.args.separator.now c.args.texts.now c.loop-index.index c.index-texts-index.result (string_bytes c.loop-index.all) (string_bytes c.if-index-gt0.all) c.loop-index-test.true before
    (λ some. elim c.if-index-gt0.branch [
      | then-index-gt0+in_ok-push_str w ↦ ap string_bytes w.all-is ∙ w.in_ok-push_str.ensures.bytes
      | else-index-gt0 w ↦ let none = w.if-index-gt0.false in absurd (omega (arith, some, none))
    ])
    (λ none. elim c.if-index-gt0.branch [
      | then-index-gt0+in_ok-push_str w ↦ let some = w.if-index-gt0.true in absurd (omega (arith, some, none))
      | else-index-gt0 w ↦ ap string_bytes w.all-is
    ])
