-- A stream of requests is cut in one way, and has one end.
use Rattle.std.proofs.Common.{◌≡◌, ◌<◌, ◌⊎◌, inl, inr, ℕ, List, [], ◌∷◌, ◌++◌, length, refl, sym, ◌∙◌, ap, subst, arith, append_assoc, length-append}
use Rattle.std.specs.Prelude.{true, false}
use Rattle.httparse.specs.Grammar.{print_request}
use Rattle.http_front.specs.Heads.{closes}
use Rattle.http_front.specs.Messages.{Message, IsMessage, message_text, Refused}
use Rattle.http_front.specs.Rules.{IsOfNoHead}
use Rattle.http_front.specs.Streams.{stream_text, StreamBegins, GoesOn, StreamEnd, nothing, closed, refused, HttpSpells, SameEnd}
use Rattle.http_front.specs.declared.rule.HttpRule.{HttpRule}
use Rattle.http_front.proofs.HeadTexts.{some_head, no_head_in_none}
use Rattle.http_front.proofs.OneReading.{one_message, refused_or_read, one_rule}

some_message : (m : Message) → 0 < length (message_text m)
unfolding message_text
some_message m = omega (arith, some_head m.head, length-append (print_request m.head) m.body)

refused_nothing : (rule : HttpRule) → Refused [] rule → ⊥
refused_nothing rule (inl (some, none, which)) = some refl
refused_nothing rule (inr (inl (head, behind, begins, breaks))) = no_head_in_none [] refl head behind begins.is begins.whole
refused_nothing rule (inr (inr ((head, behind, begins, sound, short), eleven))) = no_head_in_none [] refl head behind begins.is begins.whole

not_closed : (front : List Message) (last : Message) → [] ≡ front ++ last ∷ [] → ⊥
not_closed front last is = omega (arith, ap length is, length-append front (last ∷ []))

-- ---- behind the first request

-- the stream begins with the request, and ends behind it or goes on
abbrev Step : Message → List Message → List ℕ → StreamEnd → Type 0
Step m ms bytes end = (rest : List ℕ) × IsMessage m × (bytes ≡ message_text m ++ rest)
    × (((end ≡ closed) × (ms ≡ []) × (closes m.head ≡ true)) ⊎ ((closes m.head ≡ false) × HttpSpells rest ms end))

-- the last request is the first, or a later one
abbrev Last : Message → List Message → Message → Type 0
Last m ms last = ((ms ≡ []) × (closes m.head ≡ true))
    ⊎ ((closes m.head ≡ false) × ((front : List Message) × (ms ≡ front ++ last ∷ []) × GoesOn front))

last_of : (front : List Message) (last m : Message) (ms : List Message) → m ∷ ms ≡ front ++ last ∷ [] → GoesOn front → closes last.head ≡ true → Last m ms last
last_of [] last m ms is goes close =
    let same : m ≡ last = cc is in
    let none : ms ≡ [] = cc is in
    inl (none, ap (λ (x : Message). closes x.head) same ∙ close)
last_of (f ∷ front) last m ms is goes close =
    let same : m ≡ f = cc is in
    let later : ms ≡ front ++ last ∷ [] = cc is in
    inr (ap (λ (x : Message). closes x.head) same ∙ goes.0, (front, later, goes.1))

module _ (m : Message) (ms : List Message) (bytes rest : List ℕ) (begins : StreamBegins bytes (m ∷ ms) rest) where
  whole : bytes ≡ message_text m ++ (stream_text ms ++ rest)
  whole = begins.whole ∙ append_assoc (message_text m) (stream_text ms) rest

  later : StreamBegins (stream_text ms ++ rest) ms rest
  later = record { whole = refl; each = begins.each.1 }

  closing : (last : Message) → closes last.head ≡ true → Last m ms last → Step m ms bytes closed
  closing last close (inl (none, first)) = (stream_text ms ++ rest, begins.each.0, whole, inl (refl, none, first))
  closing last close (inr (on, (front, is, goes))) =
      (stream_text ms ++ rest, begins.each.0, whole, inr (on, record { rest = rest; begins = later; ends = (front, last, is, goes, close) }))

step : (m : Message) (ms : List Message) (bytes : List ℕ) (end : StreamEnd) → HttpSpells bytes (m ∷ ms) end → Step m ms bytes end
step m ms bytes nothing s = (
  stream_text ms ++ s.rest,
  s.begins.each.0,
  whole m ms bytes s.rest s.begins,
  inr (s.ends.0.0, record { rest = s.rest; begins = later m ms bytes s.rest s.begins; ends = (s.ends.0.1, s.ends.1) }),
)
step m ms bytes closed s =
    closing m ms bytes s.rest s.begins s.ends.1 s.ends.4 (last_of s.ends.0 s.ends.1 m ms s.ends.2 s.ends.3 s.ends.4)
step m ms bytes (refused rule) s = (
  stream_text ms ++ s.rest,
  s.begins.each.0,
  whole m ms bytes s.rest s.begins,
  inr (s.ends.0.0, record { rest = s.rest; begins = later m ms bytes s.rest s.begins; ends = (s.ends.0.1, s.ends.1) }),
)

-- ---- two cuts

-- a stream that ends at once has no request
not_ended : (n : Message) (ns : List Message) (bytes : List ℕ) (end other : StreamEnd) → HttpSpells bytes [] end → Step n ns bytes other → ⊥
not_ended n ns bytes nothing other s (rest, is, whole, how) =
    omega (arith, some_message n, length-append (message_text n) rest, ap length whole, ap length s.begins.whole, ap length s.ends.1)
not_ended n ns bytes closed other s (rest, is, whole, how) = not_closed s.ends.0 s.ends.1 s.ends.2
not_ended n ns bytes (refused rule) other s (rest, is, whole, how) = refused_or_read n rest s.rest rule is (sym s.begins.whole ∙ whole) s.ends.1

-- the ends of a stream without requests
module _ (bytes : List ℕ) where
  by_one_rule : (rule other : HttpRule) → (rule ≡ other) ⊎ (IsOfNoHead rule × IsOfNoHead other) → SameEnd (refused rule) (refused other)
  by_one_rule rule other (inl same) = inl (ap refused same)
  by_one_rule rule other (inr both) = inr (rule, other, refl, refl, both.0, both.1)

  one_end : (end other : StreamEnd) → HttpSpells bytes [] end → HttpSpells bytes [] other → SameEnd end other
  one_end nothing nothing s t = inl refl
  one_end nothing closed s t = absurd (not_closed t.ends.0 t.ends.1 t.ends.2)
  one_end nothing (refused rule) s t =
      absurd (refused_nothing rule (subst (λ (l : List ℕ). Refused l rule) (sym t.begins.whole ∙ s.begins.whole ∙ s.ends.1) t.ends.1))
  one_end closed other s t = absurd (not_closed s.ends.0 s.ends.1 s.ends.2)
  one_end (refused rule) nothing s t =
      absurd (refused_nothing rule (subst (λ (l : List ℕ). Refused l rule) (sym s.begins.whole ∙ t.begins.whole ∙ t.ends.1) s.ends.1))
  one_end (refused rule) closed s t = absurd (not_closed t.ends.0 t.ends.1 t.ends.2)
  one_end (refused rule) (refused other) s t =
      by_one_rule rule other (one_rule s.rest rule other s.ends.1 (subst (λ (l : List ℕ). Refused l other) (sym t.begins.whole ∙ s.begins.whole) t.ends.1))

abbrev Agree : List Message → List Message → StreamEnd → StreamEnd → Type 0
Agree ms ns end other = (ms ≡ ns) × SameEnd end other

-- both begin with a request: it is the same one, and the rest agrees
both_begin : (m n : Message) (ms ns : List Message) (bytes : List ℕ) (end other : StreamEnd)
    → ((rest : List ℕ) → HttpSpells rest ms end → HttpSpells rest ns other → Agree ms ns end other)
    → Step m ms bytes end → Step n ns bytes other → Agree (m ∷ ms) (n ∷ ns) end other
both_begin m n ms ns bytes end other on (x, is, whole, inl (closing, none, close)) (y, is', whole', inl (closing', none', close')) =
    let same : m ≡ n = (one_message m n x y is is' (sym whole ∙ whole')).0 in
    let all : m ∷ ms ≡ n ∷ ns = cc (same, none, none') in
    (all, inl (closing ∙ sym closing'))
both_begin m n ms ns bytes end other on (x, is, whole, inl (closing, none, close)) (y, is', whole', inr (goes', more')) =
    let same : m ≡ n = (one_message m n x y is is' (sym whole ∙ whole')).0 in
    let clash : true ≡ false = sym close ∙ ap (λ (k : Message). closes k.head) same ∙ goes' in
    absurd (cc clash)
both_begin m n ms ns bytes end other on (x, is, whole, inr (goes, more)) (y, is', whole', inl (closing', none', close')) =
    let same : m ≡ n = (one_message m n x y is is' (sym whole ∙ whole')).0 in
    let clash : true ≡ false = sym close' ∙ ap (λ (k : Message). closes k.head) (sym same) ∙ goes in
    absurd (cc clash)
both_begin m n ms ns bytes end other on (x, is, whole, inr (goes, more)) (y, is', whole', inr (goes', more')) =
    let one = one_message m n x y is is' (sym whole ∙ whole') in
    let rest = on x more (subst (λ (l : List ℕ). HttpSpells l ns other) (sym one.1) more') in
    let first : m ≡ n = one.0 in
    let later : ms ≡ ns = rest.0 in
    let all : m ∷ ms ≡ n ∷ ns = cc (first, later) in
    (all, rest.1)

pub one_stream : (ms ns : List Message) (bytes : List ℕ) (end other : StreamEnd) → HttpSpells bytes ms end → HttpSpells bytes ns other → Agree ms ns end other
one_stream [] [] bytes end other s t = (refl, one_end bytes end other s t)
one_stream [] (n ∷ ns) bytes end other s t = absurd (not_ended n ns bytes end other s (step n ns bytes other t))
one_stream (m ∷ ms) [] bytes end other s t = absurd (not_ended m ms bytes other end t (step m ms bytes end s))
one_stream (m ∷ ms) (n ∷ ns) bytes end other s t =
    both_begin m n ms ns bytes end other (λ rest more more'. one_stream ms ns rest end other more more') (step m ms bytes end s) (step n ns bytes other t)
