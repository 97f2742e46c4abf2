use Rattle.std.proofs.Common.{List, sym, ◌∙◌, ap, arith, codes}
use Rattle.std.specs.Str.{str_eq_ignore_ascii_case}
use Rattle.http_front.proofs.FieldLists.{some_close}
use Rattle.http_front.proofs.fields.any_close.Goals as goal

pub returns-then-same_word : goal.returns-then-same_word
returns-then-same_word c = sym (some_close c.args.bytes.now c.args.spans.now c.loop-span.span-index _ (omega arith)
    (ap (λ (l : List _). str_eq_ignore_ascii_case l (codes "close")) (sym c.of.ensures) ∙ sym c.same_word.ensures ∙ c.if-same_word.true))
