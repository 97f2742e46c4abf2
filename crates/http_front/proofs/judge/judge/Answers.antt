use Rattle.std.proofs.Common.{List, subst, refl, ◌∙◌, ap, map}
use Rattle.std.specs.Prelude.{◌==◌, ◌||◌}
use Rattle.httparse.specs.Spans.{header_bytes, span_bytes}
use Rattle.httparse.specs.declared.spans.Span.{Span}
use Rattle.http_front.specs.Rulings.{IsRuled}
use Rattle.http_front.specs.declared.judge.Ruling.{Ruling}
use Rattle.http_front.specs.Fields.{bearer_of, asks_close}
use Rattle.http_front.proofs.Judging.{judged_good}
use Rattle.http_front.proofs.judge.judge.Goals as goal

pub returns : goal.returns
returns c =
    let ruled = subst (λ (x : Ruling). IsRuled c.of-method.result.now c.of-target.result.now (map (header_bytes c.args.bytes.now) c.split_at.result.0.now) x) c.in-Sound.is c.in_ok-route.ensures in
    judged_good c.args.bytes.now c.args.headers.now c.split_at.result.0.now c.args.spans.now c.of-method.result.now c.of-target.result.now c.requires.head.0 _
    c.requires.head.1 c.requires.within c.requires.room c.requires.size c.split_at.ensures.front c.of-method.ensures c.of-target.ensures
    ruled.0 ruled.1
    (c.in_ok-bearer.ensures ∙ ap bearer_of (ap (λ (l : List Span). map (span_bytes c.args.bytes.now) l) c.as_slice.ensures.value ∙ c.in_ok-authorization.ensures.values))
    (c.closes-close.ensures ∙ ap (λ (l : List _). (c.args.spans.now.version == 0 || asks_close l)) (ap (λ (l : List Span). map (span_bytes c.args.bytes.now) l) c.as_slice-2.ensures.value ∙ c.in_ok-connection.ensures.values))
    refl ruled.2
