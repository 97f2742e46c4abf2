-- A head's text ends in a line feed, and bytes that begin with one begin with no other.
use Rattle.std.proofs.Common.{◌≡◌, ◌≢◌, ◌≤◌, ◌<◌, ℕ, ◌+◌, List, [], ◌∷◌, ◌++◌, length, take, drop, get_or, refl, sym, ◌∙◌, ap, arith, inr, append_assoc, length-append}
use Rattle.std.proofs.lemmas.List.{append-nil, take_at, drop_at, take-append-le}
use Rattle.std.proofs.Math.Seq.{get_or-append_seam}
use Rattle.std.proofs.Math.ListN.{take-append-drop}
use Rattle.std.specs.List.{flat_map}
use Rattle.httparse.specs.Grammar.{LineEnd, crlf, lf, print_end, print_blank, print_version, print_field, RequestHead, print_request, HasNoRequest}
use Rattle.httparse.specs.Spans.{RequestOverflows}
use Rattle.httparse.proofs.GrammarLemmas.{cons-append, print_request-append, request_unique}
use Rattle.http_front.specs.Messages.{NoHead, NeverHead, Begins}
use Rattle.http_front.specs.Halves.{IsFoundHead, IsJudged}
use Rattle.http_front.specs.declared.head.FoundHead.{FoundHead}
use Rattle.http_front.specs.declared.head.FoundHead.TheVariants as found

line_end_end : (end : LineEnd) → (front : List ℕ) × (print_end end ≡ front ++ 10 ∷ [])
line_end_end crlf = (13 ∷ [], refl)
line_end_end lf = ([], refl)

tail : (a b c d e f g : List ℕ) → (a ++ (b ++ 32 ∷ (c ++ 32 ∷ (d ++ (e ++ ((f ++ (g ++ 10 ∷ [])) ++ []))))))
    ≡ (a ++ (b ++ 32 ∷ (c ++ 32 ∷ (d ++ (e ++ (f ++ g)))))) ++ 10 ∷ []
tail a b c d e f g = simp (append_assoc, cons-append, append-nil)

pub head_end : (h : RequestHead) → (front : List ℕ) × (print_request h ≡ front ++ 10 ∷ [])
head_end h =
    let e = line_end_end h.last in
    let fields = flat_map print_field h.fields in (
      print_blank h.blank ++ (h.method ++ 32 ∷ (h.target ++ 32 ∷ (print_version h.minor ++ (print_end h.line_end ++ (fields ++ e.0))))),
      sym (append-nil (print_request h)) ∙ print_request-append h []
          ∙ ap (λ (l : List ℕ). print_blank h.blank ++ (h.method ++ 32 ∷ (h.target ++ 32 ∷ (print_version h.minor ++ (print_end h.line_end ++ ((fields ++ l) ++ [])))))) e.1
          ∙ tail (print_blank h.blank) h.method h.target (print_version h.minor) (print_end h.line_end) fields e.0,
    )

pub some_head : (h : RequestHead) → 0 < length (print_request h)
some_head h = let e = head_end h in omega (arith, ap length e.1, length-append e.0 (10 ∷ []))

-- a text that stands at the front of more bytes stands at the front of these, where they are long enough
pub front_within : (tried more text behind : List ℕ) → tried ++ more ≡ text ++ behind → length text ≤ length tried → tried ≡ text ++ drop (length text) tried
front_within tried more text behind same short =
    let front : take (length text) tried ≡ text = sym (take-append-le (length text) tried more short) ∙ ap (λ (l : List ℕ). take (length text) l) same ∙ take_at text behind (length text) refl in
    sym (take-append-drop (length text) tried) ∙ ap (λ (l : List ℕ). l ++ drop (length text) tried) front

-- a head within the bytes ends before the last line feed
ends_at_feed : (bytes : List ℕ) (size : ℕ) (h : RequestHead) (more : List ℕ) → ((k : ℕ) → size ≤ k → k < length bytes → get_or bytes k 0 ≢ 10)
    → bytes ≡ print_request h ++ more → length (print_request h) ≤ size
ends_at_feed bytes size h more none whole =
    let e = head_end h in
    let spread : bytes ≡ e.0 ++ 10 ∷ more = whole ∙ ap (λ (l : List ℕ). l ++ more) e.1 ∙ append_assoc e.0 (10 ∷ []) more in
    let size_is : length bytes ≡ length e.0 + length (10 ∷ more) = ap length spread ∙ length-append e.0 (10 ∷ more) in
    let text_is : length (print_request h) ≡ length e.0 + 1 = ap length e.1 ∙ length-append e.0 (10 ∷ []) in
    let feed : get_or bytes (length e.0) 0 ≡ 10 = ap (λ (l : List ℕ). get_or l (length e.0) 0) spread ∙ get_or-append_seam e.0 10 more 0 in
    let not_behind : size ≤ length e.0 → ⊥ = λ behind. none (length e.0) behind (omega arith) feed in
    omega arith

-- no head among the lines that were tried, so none at all
pub no_head : (bytes tried more : List ℕ) (size : ℕ) → ((k : ℕ) → size ≤ k → k < length bytes → get_or bytes k 0 ≢ 10)
    → bytes ≡ tried ++ more → length tried ≡ size → HasNoRequest tried → NoHead bytes
no_head bytes tried more size none cut sized has_none h behind is whole =
    let short : length (print_request h) ≤ size = ends_at_feed bytes size h behind none whole in
    has_none h (drop (length (print_request h)) tried) (is.form, front_within tried more (print_request h) behind (sym cut ∙ whole) (omega arith))

-- no head within the limit, however the bytes go on
pub too_long : (bytes tried more : List ℕ) → bytes ≡ tried ++ more → length tried ≡ 16384 → HasNoRequest tried → NeverHead bytes
too_long bytes tried more cut sized has_none after h behind is whole =
    has_none h (drop (length (print_request h)) tried)
    (is.form, front_within tried (more ++ after) (print_request h) behind (sym (append_assoc tried more after) ∙ ap (λ (l : List ℕ). l ++ after) (sym cut) ∙ whole) (let small : length (print_request h) ≤ 16384 = is.size in omega arith))

-- each head that can come has too many fields, or there is none
pub overflows : (bytes tried more : List ℕ) → bytes ≡ tried ++ more → RequestOverflows 64 tried → NeverHead bytes
overflows bytes tried more cut over after h behind is whole =
    let some : 64 < length h.fields = over (more ++ after) h behind (is.form, sym (append_assoc tried more after) ∙ ap (λ (l : List ℕ). l ++ after) (sym cut) ∙ whole) in
    let few : length h.fields ≤ 64 = is.fields in
    omega arith

-- what was judged of the front holds of the whole
pub judged_whole : (bytes tried more : List ℕ) → bytes ≡ tried ++ more → (bytes ≢ []) → (judged : FoundHead) → IsJudged tried judged → IsFoundHead bytes judged
judged_whole bytes tried more cut some (found.Whole kept) (head, begins, says) = (
  head,
  record {
    is = begins.is;
    whole = let spread : bytes ≡ print_request head ++ (drop kept.size tried ++ more) =
        cut ∙ ap (λ (l : List ℕ). l ++ more) begins.whole ∙ append_assoc (print_request head) (drop kept.size tried) more in
        spread ∙ ap (λ (l : List ℕ). print_request head ++ l) (sym (ap (λ (l : List ℕ). drop kept.size l) spread ∙ drop_at (print_request head) (drop kept.size tried ++ more) kept.size (sym says.size)));
  },
  says,
)
judged_whole bytes tried more cut some (found.Refused rule) (head, behind, begins, breaks) = (
  some,
  inr (
    head,
    behind ++ more,
    record {
      is = begins.is;
      whole = cut ∙ ap (λ (l : List ℕ). l ++ more) begins.whole ∙ append_assoc (print_request head) behind more;
    },
    breaks,
  ),
)
judged_whole bytes tried more cut some found.Part none = absurd none

-- before a first byte there is no head
pub no_head_in_none : (bytes : List ℕ) → length bytes ≡ 0 → NoHead bytes
no_head_in_none bytes none h behind is whole = let some : 0 < length (print_request h) = some_head h in omega (arith, ap length whole, length-append (print_request h) behind)

-- a head at the front is the only one
pub one_head : (bytes : List ℕ) (h k : RequestHead) (x y : List ℕ) → Begins bytes h x → Begins bytes k y → (h ≡ k) × (x ≡ y)
one_head bytes h k x y first second = request_unique bytes h k x y (first.is.form, first.whole) (second.is.form, second.whole)
