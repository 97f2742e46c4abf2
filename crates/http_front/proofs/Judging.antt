-- What was read from the parts of a head is what the head says.
use Rattle.std.proofs.Common.{◌≡◌, ◌≤◌, ℕ, List, ◌++◌, length, take, drop, sym, ◌∙◌, ap, subst, arith, map}
use Rattle.std.proofs.lemmas.List.{length-map, length-take}
use Rattle.std.specs.Prelude.{None, Some, codes, ◌==◌, ◌||◌}
use Rattle.httparse.specs.Grammar.{RequestHead, print_request}
use Rattle.httparse.specs.Spans.{span_bytes, header_bytes, name_and_value, IsRequestAt, IsRequestWithin}
use Rattle.httparse.specs.declared.spans.HeaderSpan.{HeaderSpan}
use Rattle.httparse.specs.declared.spans.RequestSpans.{RequestSpans}
use Rattle.wif_base.specs.Routes.{route}
use Rattle.http_front.specs.Fields.{Fields, values, length_of, bearer_of, asks_close}
use Rattle.http_front.specs.Heads.{fault_of, fields_of}
use Rattle.http_front.specs.Halves.{HasHead}
use Rattle.http_front.specs.declared.head.Head.{Head}

pub judged_good : (bytes : List ℕ) (headers fields : List HeaderSpan) (spans : RequestSpans) (method target : List ℕ) (h : RequestHead) (kept : Head)
    → IsRequestAt bytes headers spans h → IsRequestWithin bytes headers spans → length headers ≤ 64 → length bytes ≤ 16384
    → fields ≡ take spans.headers headers → method ≡ span_bytes bytes spans.method → target ≡ span_bytes bytes spans.path
    → fault_of method target (map (header_bytes bytes) fields) ≡ None
    → route target ≡ Some kept.route
    → kept.bearer ≡ bearer_of (values (codes "authorization") (map (header_bytes bytes) fields))
    → kept.close ≡ (spans.version == 0 || asks_close (values (codes "connection") (map (header_bytes bytes) fields)))
    → kept.size ≡ spans.len
    → kept.body ≡ length_of (values (codes "content-length") (map (header_bytes bytes) fields))
    → HasHead bytes kept
judged_good bytes headers fields spans method target h kept at within room size cut m t sound route_is bearer_is close_is size_is body_is =
    let same : map (header_bytes bytes) fields ≡ fields_of h = ap (λ (l : List HeaderSpan). map (header_bytes bytes) l) cut ∙ at.fields in
    let method_is : method ≡ h.method = m ∙ at.method in
    let target_is : target ≡ h.target = t ∙ at.path in
    let count : length h.fields ≤ 64 =
    let sizes = sym (length-map h.fields name_and_value) ∙ ap length (sym at.fields) ∙ length-map (take spans.headers headers) (header_bytes bytes) ∙ length-take spans.headers headers in
    omega (arith, sizes, room) in (
      h,
      record {
        is = record { form = at.reads.0; fields = count; size = omega (arith, at.len, within.section.len_fits, size) };
        whole = subst (λ (n : ℕ). bytes ≡ print_request h ++ drop n bytes) (sym size_is) at.reads.1;
      },
      record {
        sound = ap (λ (x : List ℕ). fault_of x h.target (fields_of h)) (sym method_is) ∙ ap (λ (x : List ℕ). fault_of method x (fields_of h)) (sym target_is)
            ∙ ap (λ (x : Fields). fault_of method target x) (sym same) ∙ sound;
        route = ap (λ (x : List ℕ). route x) (sym target_is) ∙ route_is;
        bearer = bearer_is ∙ ap (λ (x : Fields). bearer_of (values (codes "authorization") x)) same;
        close = close_is ∙ ap (λ (n : ℕ). (n == 0 || asks_close (values (codes "connection") (map (header_bytes bytes) fields)))) at.version
            ∙ ap (λ (x : Fields). (h.minor == 0 || asks_close (values (codes "connection") x))) same;
        size = size_is ∙ at.len;
        body = body_is ∙ ap (λ (x : Fields). length_of (values (codes "content-length") x)) same;
      },
    )
