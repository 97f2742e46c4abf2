use Rattle.std.proofs.Common.{List, sym, ◌∙◌, ap, arith, codes}
use Rattle.std.specs.Str.{str_eq_ignore_ascii_case}
use Rattle.http_front.proofs.FieldLists.{some_not_plain}
use Rattle.http_front.proofs.fields.all_plain.Goals as goal

pub returns-then-not-same_word : goal.returns-then-not-same_word
returns-then-not-same_word c = sym (some_not_plain c.args.bytes.now c.args.spans.now c.loop-span.span-index _ (omega arith)
    (ap (λ (l : List _). str_eq_ignore_ascii_case l (codes "identity")) (sym c.of.ensures) ∙ sym c.same_word.ensures ∙ c.if-not-same_word.true))
