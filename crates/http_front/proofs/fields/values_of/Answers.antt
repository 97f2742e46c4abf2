use Rattle.std.proofs.Common.{List, map, length, sym, ◌∙◌, ap, subst, arith, All, get_or}
use Rattle.std.proofs.lemmas.Grind.{common_steps}
use Rattle.std.proofs.lemmas.List.Elements.{All-push}
use Rattle.httparse.specs.declared.spans.HeaderSpan.{HeaderSpan}
use Rattle.std.specs.Str.{str_eq_ignore_ascii_case}
use Rattle.httparse.specs.Spans.{span_bytes, IsWithin}
use Rattle.httparse.specs.declared.spans.Span.{Span}
use Rattle.http_front.proofs.FieldLists.{taken_in, passed_over}
use Rattle.http_front.proofs.fields.values_of.Goals as goal
use Rattle.http_front.proofs.fields.values_of.Goals.{then-same_word+in_ok-push, else-same_word}

abbrev none : HeaderSpan
none = record { name = record { start = 0; end = 0 }; value = record { start = 0; end = 0 } }

pub loop-field-preserved : goal.loop-field-preserved
loop-field-preserved c = elim c.if-same_word.branch [
  | then-same_word+in_ok-push w ↦ record {
    values = ap (λ (l : List Span). map (span_bytes c.args.bytes.now) l) (ap (λ (v : _). v.items) w.spans-is ∙ w.in_ok-push.ensures.items)
        ∙ taken_in c.args.name.now c.args.bytes.now c.args.fields.now c.loop-field.field-index _ c.loop-field.spans.items (omega arith)
        (ap (λ (l : List _). str_eq_ignore_ascii_case l c.args.name.now) (sym c.of.ensures) ∙ sym c.same_word.ensures ∙ w.if-same_word.true) c.loop-field.invariant.values;
    within = subst (λ (l : List Span). All (IsWithin (length c.args.bytes.now)) l) (sym (ap (λ (v : _). v.items) w.spans-is ∙ w.in_ok-push.ensures.items))
        (All-push (IsWithin (length c.args.bytes.now)) c.loop-field.spans.items (get_or c.args.fields.now c.loop-field.field-index none).value c.loop-field.invariant.within
        (c.requires c.loop-field.field-index none (omega arith)).1);
  }
  | else-same_word w ↦ record {
    values = ap (λ (v : _). map (span_bytes c.args.bytes.now) v.items) w.spans-is
        ∙ passed_over c.args.name.now c.args.bytes.now c.args.fields.now c.loop-field.field-index _ c.loop-field.spans.items (omega arith)
        (ap (λ (l : List _). str_eq_ignore_ascii_case l c.args.name.now) (sym c.of.ensures) ∙ sym c.same_word.ensures ∙ w.if-same_word.false) c.loop-field.invariant.values;
    within = grind (arith, common_steps);
  }
]
