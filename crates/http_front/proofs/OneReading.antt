-- Bytes are read in one way.
use Rattle.std.proofs.Common.{◌≡◌, ◌⊎◌, inl, inr, ℕ, List, ◌++◌, length, take, drop, refl, sym, ◌∙◌, ap, arith, append_assoc, length-append}
use Rattle.std.proofs.lemmas.List.{take_at, drop_at}
use Rattle.std.specs.Prelude.{None, Some}
use Rattle.httparse.specs.Grammar.{print_request}
use Rattle.http_front.specs.Heads.{fault, body_length}
use Rattle.http_front.specs.Messages.{Message, IsMessage, message_text, Begins, Refused, IsPart}
use Rattle.http_front.specs.Rules.{IsOfNoHead}
use Rattle.http_front.specs.declared.rule.HttpRule.{HttpRule}
use Rattle.http_front.specs.declared.rule.HttpRule.TheVariants.{H11}
use Rattle.http_front.proofs.HeadTexts.{one_head}

-- the head of a message stands at the front
spread : (m : Message) (x : List ℕ) → message_text m ++ x ≡ print_request m.head ++ (m.body ++ x)
unfolding message_text
spread m x = append_assoc (print_request m.head) m.body x

begins : (m : Message) (x bytes : List ℕ) → IsMessage m → bytes ≡ message_text m ++ x → Begins bytes m.head (m.body ++ x)
begins m x bytes is whole = record { is = is.head; whole = whole ∙ spread m x }

pub one_message : (m n : Message) (x y : List ℕ) → IsMessage m → IsMessage n → message_text m ++ x ≡ message_text n ++ y → (m ≡ n) × (x ≡ y)
one_message m n x y is is' same =
    let heads = one_head (message_text n ++ y) m.head n.head (m.body ++ x) (n.body ++ y) (begins m x (message_text n ++ y) is (sym same)) (begins n y (message_text n ++ y) is' refl) in
    let sizes : length m.body ≡ length n.body = is.body ∙ ap body_length heads.0 ∙ sym is'.body in
    let bodies : m.body ≡ n.body = sym (take_at m.body x (length m.body) refl) ∙ ap (λ (l : List ℕ). take (length m.body) l) heads.1 ∙ take_at n.body y (length m.body) (sym sizes) in
    let rests : x ≡ y = sym (drop_at m.body x (length m.body) refl) ∙ ap (λ (l : List ℕ). drop (length m.body) l) heads.1 ∙ drop_at n.body y (length m.body) (sym sizes) in
    let whole : m ≡ n = (λ i. record { head = heads.0 i; body = bodies i }) in
    (whole, rests)

pub refused_or_read : (m : Message) (x bytes : List ℕ) (rule : HttpRule) → IsMessage m → bytes ≡ message_text m ++ x → Refused bytes rule → ⊥
refused_or_read m x bytes rule is whole (inl none) = none.1 m.head (m.body ++ x) is.head (begins m x bytes is whole).whole
refused_or_read m x bytes rule is whole (inr (inl (head, behind, there, breaks))) =
    let heads = one_head bytes m.head head (m.body ++ x) behind (begins m x bytes is whole) there in
    let clash : None ≡ Some rule = sym is.sound ∙ ap fault heads.0 ∙ breaks in
    cc clash
refused_or_read m x bytes rule is whole (inr (inr ((head, behind, there, sound, short), eleven))) =
    let heads = one_head bytes m.head head (m.body ++ x) behind (begins m x bytes is whole) there in
    omega (arith, ap length heads.1, length-append m.body x, is.body, ap body_length heads.0, short)

pub part_or_read : (m : Message) (x bytes : List ℕ) → IsMessage m → bytes ≡ message_text m ++ x → IsPart bytes → ⊥
part_or_read m x bytes is whole (inl lacks) = lacks.0 m.head (m.body ++ x) is.head (begins m x bytes is whole).whole
part_or_read m x bytes is whole (inr lacks) = refused_or_read m x bytes H11 is whole (inr (inr (lacks, refl)))

pub rule_of_a_part : (bytes : List ℕ) (rule : HttpRule) → IsPart bytes → Refused bytes rule → IsOfNoHead rule ⊎ (rule ≡ H11)
rule_of_a_part bytes rule part (inl none) = inl none.2
rule_of_a_part bytes rule (inl lacks) (inr (inl (head, behind, there, breaks))) = absurd (lacks.0 head behind there.is there.whole)
rule_of_a_part bytes rule (inr (head', behind', there', sound, short)) (inr (inl (head, behind, there, breaks))) =
    let clash : None ≡ Some rule = sym sound ∙ ap fault (one_head bytes head' head behind' behind there' there).0 ∙ breaks in
    absurd (cc clash)
rule_of_a_part bytes rule part (inr (inr (lacks, eleven))) = inr eleven

pub one_rule : (bytes : List ℕ) (rule other : HttpRule) → Refused bytes rule → Refused bytes other → (rule ≡ other) ⊎ (IsOfNoHead rule × IsOfNoHead other)
one_rule bytes rule other (inl none) (inl none') = inr (none.2, none'.2)
one_rule bytes rule other (inl none) (inr (inl (head, behind, there, breaks))) = absurd (none.1 head behind there.is there.whole)
one_rule bytes rule other (inl none) (inr (inr ((head, behind, there, sound, short), eleven))) = absurd (none.1 head behind there.is there.whole)
one_rule bytes rule other (inr (inl (head, behind, there, breaks))) (inl none) = absurd (none.1 head behind there.is there.whole)
one_rule bytes rule other (inr (inr ((head, behind, there, sound, short), eleven))) (inl none) = absurd (none.1 head behind there.is there.whole)
one_rule bytes rule other (inr (inl (head, behind, there, breaks))) (inr (inl (head', behind', there', breaks'))) =
    let same : Some rule ≡ Some other = sym breaks ∙ ap fault (one_head bytes head head' behind behind' there there').0 ∙ breaks' in
    let is : rule ≡ other = cc same in inl is
one_rule bytes rule other (inr (inl (head, behind, there, breaks))) (inr (inr ((head', behind', there', sound, short), eleven))) =
    let clash : Some rule ≡ None = sym breaks ∙ ap fault (one_head bytes head head' behind behind' there there').0 ∙ sound in cc clash
one_rule bytes rule other (inr (inr ((head, behind, there, sound, short), eleven))) (inr (inl (head', behind', there', breaks))) =
    let clash : None ≡ Some other = sym sound ∙ ap fault (one_head bytes head head' behind behind' there there').0 ∙ breaks in cc clash
one_rule bytes rule other (inr (inr ((head, behind, there, sound, short), eleven))) (inr (inr (lacks, eleven'))) = inl (eleven ∙ sym eleven')
