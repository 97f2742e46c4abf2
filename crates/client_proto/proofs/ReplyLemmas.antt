-- The bytes of a reply are read in one way.
use Rattle.std.proofs.Common.{◌≡◌, ◌<◌, ◌≤◌, ◌^◌, inl, inr, ℕ, List, [], ◌∷◌, ◌++◌, length, take, drop, map, refl, sym, ◌∙◌, ap, subst, arith, length-append}
use Rattle.std.proofs.lemmas.List.{take_at, length-map, length-take}
use Rattle.std.proofs.lemmas.Fmt.{decimal_injective}
use Rattle.std.specs.Prelude.{codes, None}
use Rattle.std.specs.Fmt.{decimal}
use Rattle.httparse.specs.Grammar.{ResponseHead, ReadsResponse, HasNoResponse, print_response, status_code}
use Rattle.httparse.specs.Spans.{IsResponseAt, IsResponseWithin, ResponseOverflows, header_bytes, name_and_value}
use Rattle.httparse.specs.declared.spans.HeaderSpan.{HeaderSpan}
use Rattle.httparse.specs.declared.spans.ResponseSpans.{ResponseSpans}
use Rattle.httparse.proofs.GrammarLemmas.{response_unique, ReadsResponse-append}
use Rattle.client_link.specs.declared.target.Target.{Target}
use Rattle.client_proto.specs.Heads.{IsBody}
use Rattle.client_proto.specs.Replies.{IsReply, IsReading, values, reading_of}
use Rattle.client_proto.specs.declared.reply.ReadReply.{ReadReply}

-- ---- one reply

-- two fronts of the same bytes that are as long as each other
same_front : (a b x y : List ℕ) → a ++ x ≡ b ++ y → length a ≡ length b → a ≡ b
same_front a b x y same long = sym (take_at a x (length a) refl) ∙ ap (take (length a)) same ∙ take_at b y (length a) (sym long)

first_value : (x y : List ℕ) → ◌≡◌ {A = List (List ℕ)} (x ∷ []) (y ∷ []) → x ≡ y
first_value x y same = cc

shorter : (body more rest : List ℕ) → rest ≡ body ++ more → length body ≤ length rest
shorter body more rest is = omega (arith, ap length is, length-append body more)

rest_within : (bytes : List ℕ) (h : ResponseHead) (rest : List ℕ) → ReadsResponse bytes h rest → length rest ≤ length bytes
rest_within bytes h rest reads = omega (arith, ap length reads.1, length-append (print_response h) rest)

pub one_reply : (bytes : List ℕ) (status other : ℕ) (body rest : List ℕ) → length bytes < 2 ^ 64
    → IsReply bytes status body → IsReply bytes other rest → (status ≡ other) × (body ≡ rest)
one_reply bytes status other body rest small a b =
    let heads = response_unique bytes a.head b.head (body ++ a.more) (rest ++ b.more) a.reads b.reads in
    let fields : values (codes "content-length") (map name_and_value a.head.fields) ≡ values (codes "content-length") (map name_and_value b.head.fields) =
    ap (λ (h : ResponseHead). values (codes "content-length") (map name_and_value h.fields)) heads.0 in
    let sizes : decimal (length body) ≡ decimal (length rest) = first_value _ _ (sym a.size ∙ fields ∙ b.size) in
    let small_body : length body < 2 ^ 64 = omega (arith, rest_within bytes a.head (body ++ a.more) a.reads, length-append body a.more) in
    let small_rest : length rest < 2 ^ 64 = omega (arith, rest_within bytes b.head (rest ++ b.more) b.reads, length-append rest b.more) in
    let long : length body ≡ length rest = decimal_injective (length body) (length rest) small_body small_rest sizes in
    (a.status_is ∙ ap status_code heads.0 ∙ sym b.status_is, same_front body rest a.more b.more heads.1 long)

pub one_reading : (target : Target) (asked : ℕ) (bytes : List ℕ) (said other : ReadReply) → length bytes < 2 ^ 64
    → IsReading target asked bytes said → IsReading target asked bytes other → said ≡ other
one_reading target asked bytes said other small (inl (status, body, is, says)) (inl (status', body', is', says')) =
    let same = one_reply bytes status status' body body' small is is' in
    says ∙ ap (λ (s : ℕ). reading_of target asked s body) same.0 ∙ ap (λ (b : List ℕ). reading_of target asked status' b) same.1 ∙ sym says'
one_reading target asked bytes said other small (inl (status, body, is, says)) (inr (none, bad)) = absurd (none status body is)
one_reading target asked bytes said other small (inr (none, bad)) (inl (status, body, is, says)) = absurd (none status body is)
one_reading target asked bytes said other small (inr (none, bad)) (inr (none', bad')) = bad ∙ sym bad'

-- ---- what the parser found

-- no head stands there
pub no_head : (bytes : List ℕ) → HasNoResponse bytes → (status : ℕ) (body : List ℕ) → IsReply bytes status body → ⊥
no_head bytes none status body is = none is.head (body ++ is.more) is.reads

-- each head that stands there has too many fields
pub no_room : (bytes : List ℕ) → ResponseOverflows 64 bytes → (status : ℕ) (body : List ℕ) → IsReply bytes status body → ⊥
no_room bytes over status body is =
    let many = over [] is.head ((body ++ is.more) ++ []) (ReadsResponse-append bytes is.head (body ++ is.more) [] is.reads) in
    omega (arith, many, is.room)

fields_at : (bytes : List ℕ) (headers fields : List HeaderSpan) (spans : ResponseSpans) (h : ResponseHead) → IsResponseAt bytes headers spans h
    → fields ≡ take spans.headers headers → map (header_bytes bytes) fields ≡ map name_and_value h.fields
fields_at bytes headers fields spans h at cut = ap (λ (l : List HeaderSpan). map (header_bytes bytes) l) cut ∙ at.fields

-- the head that was found has a body of its one length
pub reply_found : (bytes rest body more : List ℕ) (headers fields : List HeaderSpan) (spans : ResponseSpans) (h : ResponseHead)
    → IsResponseAt bytes headers spans h → IsResponseWithin bytes headers spans → length headers ≤ 64
    → fields ≡ take spans.headers headers → rest ≡ drop spans.len bytes → rest ≡ body ++ more
    → values (codes "content-length") (map (header_bytes bytes) fields) ≡ decimal (length body) ∷ []
    → IsReply bytes spans.code body
reply_found bytes rest body more headers fields spans h at within room cut behind front size =
    let same = fields_at bytes headers fields spans h at cut in
    let count : length h.fields ≤ 64 =
    let sizes = sym (length-map h.fields name_and_value) ∙ ap length (sym at.fields) ∙ length-map (take spans.headers headers) (header_bytes bytes) ∙ length-take spans.headers headers in
    omega (arith, sizes, room) in
    record {
      head = h;
      more = more;
      reads = subst (λ (l : List ℕ). ReadsResponse bytes h l) (sym behind ∙ front) at.reads;
      room = count;
      status_is = at.code;
      size = ap (values (codes "content-length")) (sym same) ∙ size;
    }

-- the head that was found has no such body
pub reply_lacks : (bytes rest : List ℕ) (headers fields : List HeaderSpan) (spans : ResponseSpans) (h : ResponseHead)
    → IsResponseAt bytes headers spans h → fields ≡ take spans.headers headers → rest ≡ drop spans.len bytes
    → IsBody (values (codes "content-length") (map (header_bytes bytes) fields)) rest None
    → (status : ℕ) (body : List ℕ) → IsReply bytes status body → ⊥
reply_lacks bytes rest headers fields spans h at cut behind none status body is =
    let heads = response_unique bytes h is.head (drop spans.len bytes) (body ++ is.more) at.reads is.reads in
    let same = fields_at bytes headers fields spans h at cut in
    none body is.more (behind ∙ heads.1) (ap (values (codes "content-length")) (same ∙ ap (λ (k : ResponseHead). map name_and_value k.fields) heads.0) ∙ is.size)
