use Rattle.std.proofs.Common.{◌≡◌, FitsSigned, w64, Some, Ok, rules, ◌∙◌, sym, ap}
use Rattle.std.proofs.lemmas.Int.{to_z-of_z}
use Rattle.cel_values.specs.declared.value.Value.TheVariants as variant
use Rattle.cel_builtins.specs.Bounds.{bounded}
use Rattle.cel_builtins.specs.Durations.{signed, parts_seconds, unsigned_text}
use Rattle.cel_builtins.proofs.Spans.{span_some}
use Rattle.cel_builtins.proofs.durations.span_in.Goals as goal

pub returns : goal.returns
returns c =
    let text = c.args.text.now in
    let n = c.in-Some.n in
    let fits : FitsSigned w64 c.signed_seconds.result = search rules in
    let bytes : c.as_bytes-text.result.now ≡ text = c.as_bytes-text.ensures.value in
    let read : bounded 315576000000 (parts_seconds (unsigned_text text)) ≡ Some n =
    ap (λ t. bounded 315576000000 (parts_seconds t)) (sym (c.unsigned_text.ensures ∙ ap unsigned_text bytes)) ∙ sym c.parts_seconds.ensures.value ∙ c.in-Some.is in
    span_some text n read
    ∙ ap (λ z. Ok (variant.Span z)) (ap (λ t. signed t n) (sym bytes) ∙ sym c.signed_seconds.ensures ∙ sym (to_z-of_z w64 c.signed_seconds.result fits))
