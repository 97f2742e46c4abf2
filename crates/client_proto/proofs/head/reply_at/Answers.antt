use Rattle.std.proofs.Common.{◌≡◌, List, map, ◌∙◌, ap, subst, codes}
use Rattle.std.specs.Prelude.{None}
use Rattle.httparse.specs.Spans.{header_bytes, span_bytes}
use Rattle.httparse.specs.declared.spans.Span.{Span}
use Rattle.client_proto.specs.Heads.{IsBody}
use Rattle.client_proto.specs.Replies.{values}
use Rattle.client_proto.proofs.ReplyLemmas.{reply_lacks}
use Rattle.client_proto.proofs.head.reply_at.Goals as goal

pub returns : goal.returns
returns c =
    let lengths : map (span_bytes c.args.bytes.now) c.as_slice.result.now ≡ values (codes "content-length") (map (header_bytes c.args.bytes.now) c.split_at.result.0.now) =
    ap (λ (l : List Span). map (span_bytes c.args.bytes.now) l) c.as_slice.ensures.value ∙ c.in_ok-lengths.ensures.values in
    let none = subst (λ x. IsBody (map (span_bytes c.args.bytes.now) c.as_slice.result.now) c.split_at-2.result.1.now x) c.in-None.is c.in_ok-body.ensures in
    reply_lacks c.args.bytes.now c.split_at-2.result.1.now c.args.headers.now c.split_at.result.0.now c.args.spans.now c.requires.head.0 c.requires.head.1
    c.split_at.ensures.front c.split_at-2.ensures.back (subst (λ l. IsBody l c.split_at-2.result.1.now None) lengths none)
