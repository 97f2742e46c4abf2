-- Each form of a tree is read back from the text that it is printed as, where its parts are.
use Rattle.std.proofs.Common.{◌≡◌, ℕ, zero, suc, pos, negsuc, neg_ℤ, ◌+◌, ◌^◌, ◌<◌, ◌≤◌, Bool, true, false, not, nat_le, List, [], ◌∷◌, ◌++◌, map, length, Some, None, codes, IsUtf8, refl, sym, ap, ◌∙◌, subst, arith, append_assoc}
use Rattle.std.specs.Fmt.{decimal}
use Rattle.cel_values.specs.declared.expr.BinaryOp.{BinaryOp}
use Rattle.cel_tokens.specs.declared.token.Bracket.TheVariants.{Round, Square, Curly}
use Rattle.cel_tokens.specs.declared.token.Literal.{Literal}
use Rattle.cel_tokens.specs.declared.token.Name.{Name}
use Rattle.cel_tokens.specs.declared.token.Token.{Token}
use Rattle.cel_tokens.proofs.Spellable.{is_name, stops, begins}
use Rattle.cel_tokens.specs.Lexing.{Lexes}
use Rattle.cel_tokens.proofs.Spelled.{name_is_word, true_read, false_read, null_read, integer_read, text_read, open_round_read, close_round_read, open_square_read, close_square_read, open_curly_read, close_curly_read, comma_read, dot_read, colon_read, question_read, minus_read, bang_read, word_begins, integer_begins}
use Rattle.cel_grammar.specs.declared.draft.Draft.{Draft}
use Rattle.cel_grammar.specs.declared.draft.Draft.TheViews as draft
use Rattle.cel_grammar.specs.declared.draft.DraftPair.{DraftPair}
use Rattle.cel_syntax.specs.declared.macro_faults.Nesting.{Nesting}
use Rattle.cel_grammar.specs.Grammar.{strength, op_of, field_of, pair_of, Spelled, up, choice, binary, nots, negs, Nots, unmarked, not_of, Negs, unsigned, signed, neg_of, Member, integer_alone, proper, Proper, Some_of, last_one, one_more, Arguments, no_arguments, arguments, plain, Pairs_of, last_pair, pair_more, Entries, no_entries, entries}
use Rattle.cel_syntax.specs.Parentheses.{openings}
use Rattle.cel_syntax.specs.MacroFaults.{seen, NoFormFault, first_selects, first_names, call_faults, method_faults}
use Rattle.cel_syntax.specs.Print.{Form, Printed, level, may_be_inverted, may_be_negated, grouped, grouped_unless, at_level, listed, texts_listed}
use Rattle.cel_grammar.proofs.Stack.{binds, from_true}
use Rattle.cel_syntax.proofs.Alike.{Alike, AllAlike, AllPairsAlike, alike-itself, alike-Name, alike-List, alike-Map, alike-Select, alike-Index, alike-Not, alike-Neg, alike-Binary, alike-Cond, alike-Call, alike-Method}
use Rattle.cel_syntax.proofs.Shown.{shown, shown_pair, shown_literal, shown-Literal, shown-Int, shown-Name, shown-List, shown-Map, shown-Select, shown-Index, shown-Not, shown-Neg, shown-Binary, shown-Cond, shown-Call, shown-Method}
use Rattle.cel_syntax.proofs.Texts.{Reads, anything, no_equals, Joined, joined, Sign, sign, Named, named, Field, field, Operator, operator_sign, join, weaken, behind_space, sign_reads, name_reads, operator_reads}

-- ---- what is to be proved

-- the family of the grammar that a form is of
abbrev pub FormOf : Form → List Token → List Token → Draft → Type 0
FormOf Form.choice from rest e = Spelled 0 from rest e
FormOf (Form.binary n) from rest e = (n ≤ 5) × Spelled n from rest e
FormOf Form.inverse from rest e = Nots from rest e
FormOf Form.negative from rest e = Negs from rest e
FormOf Form.integer from rest e = Member from rest e
FormOf Form.signed from rest e = Negs from rest e
FormOf Form.member from rest e = Proper from rest e

-- tokens of a family, for this tree up to places, with so many parentheses
abbrev pub As : (List Token → List Token → Draft → Type 0) → ℕ → Draft → List Token → List Token → Type 0
As R n d from rest = (e : Draft) × R from rest e × Alike d e × (openings from ≡ n + openings rest)

pub record WrittenAs (p : Printed) (n : ℕ) (d : Draft) : Type 0 where
  pub opens : (more : List ℕ) → begins 61 (p.text ++ more) ≡ false
  pub reads : Reads stops p.text (As (FormOf p.form) n d)

-- the tree is read back from the text that it is printed as, with so many parentheses
abbrev pub Written : Draft → ℕ → Type 0
Written d n = WrittenAs (shown d) n d

-- the same of several trees
pub data AllWritten : List Draft → ℕ → Type 0 where
  none_written : AllWritten [] 0
  more_written : {d : Draft} {ds : List Draft} {n m : ℕ} → Written d n → AllWritten ds m → AllWritten (d ∷ ds) (n + m)

pub record PairWritten (p : DraftPair) (n m : ℕ) : Type 0 where
  pub key : Written p.key n
  pub value : Written p.value m

-- the same of pairs
pub data AllPairsWritten : List DraftPair → ℕ → Type 0 where
  no_pairs_written : AllPairsWritten [] 0
  more_pairs_written : {p : DraftPair} {ps : List DraftPair} {n m k : ℕ} → PairWritten p n m → AllPairsWritten ps k → AllPairsWritten (p ∷ ps) ((n + m) + k)

-- ---- counting

-- one for parentheses that a test leaves out
abbrev pub extra : Bool → ℕ
extra true = 0
extra false = 1

-- the parentheses of a tree where a form of this level or a stronger one may stand
abbrev pub cost_at : ℕ → Draft → ℕ → ℕ
cost_at l d n = n + extra (nat_le l (level (shown d).form))

none_more : (n : ℕ) → n ≡ 0 + n
none_more n = omega arith

two_counts : (f p r n m : ℕ) → f ≡ n + p → p ≡ m + r → f ≡ (n + m) + r
two_counts f p r n m h0 h1 = omega (arith, h0, h1)

three_counts : (f p q r n m k : ℕ) → f ≡ n + p → p ≡ m + q → q ≡ k + r → f ≡ (n + (m + k)) + r
three_counts f p q r n m k h0 h1 h2 = omega (arith, h0, h1, h2)

four_counts : (f p q r n m k : ℕ) → f ≡ n + p → p ≡ m + q → q ≡ k + r → f ≡ ((n + m) + k) + r
four_counts f p q r n m k h0 h1 h2 = omega (arith, h0, h1, h2)

one_more_count : (f r n : ℕ) → f ≡ n + r → suc f ≡ (n + 1) + r
one_more_count f r n h0 = omega (arith, h0)

no_more_count : (f r n : ℕ) → f ≡ n + r → f ≡ (n + 0) + r
no_more_count f r n h0 = omega (arith, h0)

pub operator_counts : (t : Token) (op : BinaryOp) (rest : List Token) → op_of t ≡ Some op → openings (t ∷ rest) ≡ openings rest
operator_counts Token.Minus op rest h = refl
operator_counts (Token.Sign o) op rest h = refl
operator_counts (Token.Name n) op rest h = cc
operator_counts (Token.Reserved n) op rest h = cc
operator_counts (Token.Integer n) op rest h = cc
operator_counts (Token.Literal l) op rest h = cc
operator_counts Token.Bang op rest h = cc
operator_counts Token.Question op rest h = cc
operator_counts Token.Colon op rest h = cc
operator_counts Token.Dot op rest h = cc
operator_counts Token.Comma op rest h = cc
operator_counts (Token.Open b) op rest h = cc
operator_counts (Token.Close b) op rest h = cc

pub field_counts : (t : Token) (f : Name) (rest : List Token) → field_of t ≡ Some f → openings (t ∷ rest) ≡ openings rest
field_counts (Token.Name n) f rest h = refl
field_counts (Token.Reserved n) f rest h = refl
field_counts (Token.Integer n) f rest h = cc
field_counts (Token.Literal l) f rest h = cc
field_counts (Token.Sign op) f rest h = cc
field_counts Token.Minus f rest h = cc
field_counts Token.Bang f rest h = cc
field_counts Token.Question f rest h = cc
field_counts Token.Colon f rest h = cc
field_counts Token.Dot f rest h = cc
field_counts Token.Comma f rest h = cc
field_counts (Token.Open b) f rest h = cc
field_counts (Token.Close b) f rest h = cc

-- ---- where forms may stand

from_member : {l : ℕ} {from rest : List Token} {e : Draft} → l ≤ 6 → Member from rest e → Spelled l from rest e
from_member h d = up h (nots (unmarked d))

from_proper : {l : ℕ} {from rest : List Token} {e : Draft} → l ≤ 6 → Proper from rest e → Spelled l from rest e
from_proper h d = from_member h (proper d)

leveled : (f : Form) (l : ℕ) {from rest : List Token} {e : Draft} → l ≤ 6 → l ≤ level f → FormOf f from rest e → Spelled l from rest e
leveled Form.choice l h k d = up k d
leveled (Form.binary n) l h k d = up k d.1
leveled Form.inverse l h k d = up k (nots d)
leveled Form.negative l h k d = up k (negs d)
leveled Form.integer l h k d = from_member h d
leveled Form.signed l h k d = up k (negs d)
leveled Form.member l h k d = from_proper h d

as_member : (f : Form) {from rest : List Token} {e : Draft} → 7 ≤ level f → FormOf f from rest e → Member from rest e
as_member Form.choice k d = absurd (omega arith)
as_member (Form.binary n) k d = absurd (omega (arith, d.0))
as_member Form.inverse k d = absurd (omega arith)
as_member Form.negative k d = absurd (omega arith)
as_member Form.integer k d = d
as_member Form.signed k d = absurd (omega arith)
as_member Form.member k d = proper d

as_nots : (f : Form) {from rest : List Token} {e : Draft} → may_be_inverted f ≡ true → FormOf f from rest e → Nots from rest e
as_nots Form.inverse k d = d
as_nots Form.choice k d = cc
as_nots (Form.binary n) k d = absurd (omega (arith, d.0, from_true 7 n k))
as_nots Form.negative k d = cc
as_nots Form.integer k d = unmarked d
as_nots Form.signed k d = cc
as_nots Form.member k d = unmarked (proper d)

as_negs : (f : Form) {from rest : List Token} {e : Draft} → may_be_negated f ≡ true → FormOf f from rest e → Negs from rest e
as_negs Form.negative k d = d
as_negs Form.member k d = unsigned d
as_negs Form.choice k d = cc
as_negs (Form.binary n) k d = cc
as_negs Form.inverse k d = cc
as_negs Form.integer k d = cc
as_negs Form.signed k d = cc

-- ---- brackets

open_round : Reads anything (codes "(") (Sign (Token.Open Round))
open_round = sign_reads (λ at more h. open_round_read at more)

close_round : Reads stops (codes ")") (Sign (Token.Close Round))
close_round = sign_reads (λ at more h. close_round_read at more)

open_square : Reads anything (codes "[") (Sign (Token.Open Square))
open_square = sign_reads (λ at more h. open_square_read at more)

close_square : Reads stops (codes "]") (Sign (Token.Close Square))
close_square = sign_reads (λ at more h. close_square_read at more)

open_curly : Reads anything (codes "{") (Sign (Token.Open Curly))
open_curly = sign_reads (λ at more h. open_curly_read at more)

close_curly : Reads stops (codes "}") (Sign (Token.Close Curly))
close_curly = sign_reads (λ at more h. close_curly_read at more)

comma : Reads anything (codes ",") (Sign Token.Comma)
comma = sign_reads (λ at more h. comma_read at more)

dot : Reads anything (codes ".") (Sign Token.Dot)
dot = sign_reads (λ at more h. dot_read at more)

colon : Reads anything (codes ":") (Sign Token.Colon)
colon = sign_reads (λ at more h. colon_read at more)

question : Reads anything (codes "?") (Sign Token.Question)
question = sign_reads (λ at more h. question_read at more)

minus : Reads anything (codes "-") (Sign Token.Minus)
minus = sign_reads (λ at more h. minus_read at more)

is_no : (b : Bool) → not b ≡ true → b ≡ false
is_no true h = cc
is_no false h = refl

bang : Reads no_equals (codes "!") (Sign Token.Bang)
bang = sign_reads (λ at more h. bang_read at more (is_no (begins 61 more) h))

by_group : (f : Form) (n : ℕ) (d : Draft) (from rest : List Token) → Joined (Sign (Token.Open Round)) (Joined (As (FormOf f) n d) (Sign (Token.Close Round))) from rest → As Proper (n + 1) d from rest
by_group f n d from rest (joined sign (joined (e, x, a, c) sign)) = (e, Proper.group (leveled f 0 (omega arith) (omega arith) x), a, one_more_count _ _ _ c)

bracketed : (p : Printed) (n : ℕ) (d : Draft) → WrittenAs p n d → Reads stops (grouped p.text) (As Proper (n + 1) d)
bracketed p n d w = weaken (join open_round (λ more h. refl) (join w.reads (λ more h. refl) close_round)) (by_group p.form n d)

-- in brackets unless a test passes
either_way : (b : Bool) (R : List Token → List Token → Draft → Type 0) (p : Printed) (n : ℕ) (d : Draft) → WrittenAs p n d →
    (b ≡ true → (from rest : List Token) (e : Draft) → FormOf p.form from rest e → R from rest e) → ((from rest : List Token) (e : Draft) → Proper from rest e → R from rest e) →
    Reads stops (grouped_unless b p.text) (As R (n + extra b) d)
either_way true R p n d w plain_case group_case = weaken w.reads (λ from rest x. (x.0, plain_case refl from rest x.0 x.1, x.2, no_more_count _ _ _ x.3))
either_way false R p n d w plain_case group_case = weaken (bracketed p n d w) (λ from rest x. (x.0, group_case from rest x.0 x.1, x.2, x.3))

opens_either : (b : Bool) (p : Printed) (n : ℕ) (d : Draft) → WrittenAs p n d → (more : List ℕ) → begins 61 (grouped_unless b p.text ++ more) ≡ false
opens_either true p n d w more = w.opens more
opens_either false p n d w more = refl

opens_front : (a b : List ℕ) → ((more : List ℕ) → begins 61 (a ++ more) ≡ false) → (more : List ℕ) → begins 61 ((a ++ b) ++ more) ≡ false
opens_front a b h more = ap (λ t. begins 61 t) (append_assoc a b more) ∙ h (b ++ more)

at_least : (l : ℕ) (d : Draft) (n : ℕ) → l ≤ 6 → Written d n → Reads stops (at_level l (shown d)) (As (Spelled l) (cost_at l d n) d)
at_least l d n h w =
    either_way (nat_le l (level (shown d).form)) (Spelled l) (shown d) n d w (λ k from rest e x. leveled (shown d).form l h (from_true l (level (shown d).form) k) x) (λ from rest e x. from_proper h x)

opens_least : (l : ℕ) (d : Draft) (n : ℕ) → Written d n → (more : List ℕ) → begins 61 (at_level l (shown d) ++ more) ≡ false
opens_least l d n w = opens_either (nat_le l (level (shown d).form)) (shown d) n d w

a_member : (d : Draft) (n : ℕ) → Written d n → Reads stops (at_level 7 (shown d)) (As Member (cost_at 7 d n) d)
a_member d n w = either_way (nat_le 7 (level (shown d).form)) Member (shown d) n d w (λ k from rest e x. as_member (shown d).form (from_true 7 (level (shown d).form) k) x) (λ from rest e x. proper x)

pub whole_of : (d : Draft) (n : ℕ) → Written d n → Reads stops (shown d).text (As (Spelled 0) n d)
whole_of d n w = weaken w.reads (λ from rest x. (x.0, leveled (shown d).form 0 (omega arith) (omega arith) x.1, x.2, x.3))

written : (p : Printed) (n : ℕ) (d : Draft) → shown d ≡ p → WrittenAs p n d → Written d n
written p n d h w = subst (λ q. WrittenAs q n d) (sym h) w

-- ---- operators

choice_of : (c a b : Draft) (n m k : ℕ) (from rest : List Token) →
    Joined (As (Spelled 1) n c) (Joined (Sign Token.Question) (Joined (As (Spelled 1) m a) (Joined (Sign Token.Colon) (As (Spelled 0) k b)))) from rest → As (Spelled 0) (n + (m + k)) (draft.Cond c a b) from rest
choice_of c a b n m k from rest (joined (z, dz, az, cz) (joined sign (joined (x, dx, ax, cx) (joined sign (y, dy, ay, cy))))) = (draft.Cond z x y, choice dz dx dy, alike-Cond c a b z x y az ax ay, three_counts _ _ _ _ _ _ _ cz cx cy)

pub written-Cond : (c a b : Draft) (n m k : ℕ) → Written c n → Written a m → Written b k → Written (draft.Cond c a b) (cost_at 1 c n + (cost_at 1 a m + k))
written-Cond c a b n m k wc wa wb = written _ _ (draft.Cond c a b) (shown-Cond c a b) (record {
  opens = opens_front (at_level 1 (shown c)) _ (opens_least 1 c n wc);
  reads = weaken
      (join (at_least 1 c n (omega arith) wc) (λ more h. refl) (behind_space (join question (λ more h. refl) (behind_space
      (join (at_least 1 a m (omega arith) wa) (λ more h. refl) (behind_space (join colon (λ more h. refl) (behind_space (whole_of b k wb)))))))))
      (choice_of c a b (cost_at 1 c n) (cost_at 1 a m) k);
})

binary_of : (op : BinaryOp) (a b : Draft) (n m : ℕ) (from rest : List Token) →
    Joined (As (Spelled (strength op)) n a) (Joined (Operator op) (As (Spelled (strength op + 1)) m b)) from rest → As (FormOf (Form.binary (strength op))) (n + m) (draft.Binary op a b) from rest
binary_of op a b n m from rest (joined (x, dx, ax, cx) (joined (operator_sign {t = t} {rest = mid} h) (y, dy, ay, cy))) =
    (draft.Binary op x y, (omega (arith, (binds op).1), binary h dx dy), alike-Binary op a b x y ax ay, two_counts _ _ _ _ _ (cx ∙ ap (λ c. n + c) (operator_counts t op mid h)) cy)

pub written-Binary : (op : BinaryOp) (a b : Draft) (n m : ℕ) → Written a n → Written b m → Written (draft.Binary op a b) (cost_at (strength op) a n + cost_at (strength op + 1) b m)
written-Binary op a b n m wa wb = written _ _ (draft.Binary op a b) (shown-Binary op a b) (record {
  opens = opens_front (at_level (strength op) (shown a)) _ (opens_least (strength op) a n wa);
  reads = weaken
      (join (at_least (strength op) a n (omega (arith, (binds op).1)) wa) (λ more h. refl)
      (behind_space (join (operator_reads op) (λ more h. refl) (behind_space (at_least (strength op + 1) b m (omega (arith, (binds op).1)) wb)))))
      (binary_of op a b (cost_at (strength op) a n) (cost_at (strength op + 1) b m));
})

inverse_of : (d : Draft) (n : ℕ) (from rest : List Token) → Joined (Sign Token.Bang) (As Nots n d) from rest → As Nots n (draft.Not d) from rest
inverse_of d n from rest (joined sign (e, x, a, c)) = (draft.Not e, not_of x, alike-Not d e a, c)

pub written-Not : (d : Draft) (n : ℕ) → Written d n → Written (draft.Not d) (n + extra (may_be_inverted (shown d).form))
written-Not d n w =
    let test = may_be_inverted (shown d).form in
    written _ _ (draft.Not d) (shown-Not d) (record {
      opens = λ more. refl;
      reads = weaken
          (join bang (λ more h. ap not (opens_either test (shown d) n d w more)) (either_way test Nots (shown d) n d w (λ k from rest e x. as_nots (shown d).form k x) (λ from rest e x. unmarked (proper x))))
          (inverse_of d (n + extra test));
    })

negative_of : (d : Draft) (n : ℕ) (from rest : List Token) → Joined (Sign Token.Minus) (As Negs n d) from rest → As Negs n (draft.Neg d) from rest
negative_of d n from rest (joined sign (e, x, a, c)) = (draft.Neg e, neg_of x, alike-Neg d e a, c)

pub written-Neg : (d : Draft) (n : ℕ) → Written d n → Written (draft.Neg d) (n + extra (may_be_negated (shown d).form))
written-Neg d n w =
    let test = may_be_negated (shown d).form in
    written _ _ (draft.Neg d) (shown-Neg d) (record {
      opens = λ more. refl;
      reads = weaken (join minus (λ more h. refl) (either_way test Negs (shown d) n d w (λ k from rest e x. as_negs (shown d).form k x) (λ from rest e x. unsigned x))) (negative_of d (n + extra test));
    })

-- ---- words

an_integer : (n : ℕ) → n < 2 ^ 64 → Reads stops (decimal n) (Sign (Token.Integer n))
an_integer n h = sign_reads (λ at more s. integer_read at n more h s)

alone_of : (n : ℕ) (from rest : List Token) → Sign (Token.Integer n) from rest → As Member 0 (Draft.Int (pos n)) from rest
alone_of n from rest sign = (Draft.Int (pos n), integer_alone, alike-itself (Draft.Int (pos n)), none_more (openings rest))

pub written-pos : (n : ℕ) → n < 2 ^ 64 → Written (Draft.Int (pos n)) 0
written-pos n h = written _ _ (Draft.Int (pos n)) (shown-Int (pos n)) (record { opens = λ more. integer_begins n more h; reads = weaken (an_integer n h) (alone_of n) })

signed_of : (n : ℕ) (from rest : List Token) → Joined (Sign Token.Minus) (Sign (Token.Integer (suc n))) from rest → As Negs 0 (Draft.Int (negsuc n)) from rest
signed_of n from rest (joined sign sign) = (Draft.Int (negsuc n), signed, alike-itself (Draft.Int (negsuc n)), none_more (openings rest))

written-negsuc : (n : ℕ) → suc n < 2 ^ 64 → Written (Draft.Int (negsuc n)) 0
written-negsuc n h = written _ _ (Draft.Int (negsuc n)) (shown-Int (negsuc n)) (record { opens = λ more. refl; reads = weaken (join minus (λ more h. refl) (an_integer (suc n) h)) (signed_of n) })

-- the negative of what a token may be
pub written-signed : (n : ℕ) → n < 2 ^ 64 → Written (Draft.Int (neg_ℤ (pos n))) 0
written-signed zero h = written-pos 0 h
written-signed (suc n) h = written-negsuc n h

literal_of : (l : Literal) (from rest : List Token) → Sign (Token.Literal l) from rest → As Proper 0 (Draft.Literal l) from rest
literal_of l from rest sign = (Draft.Literal l, Proper.literal, alike-itself (Draft.Literal l), none_more (openings rest))

abbrev pub LiteralForm : Literal → Type 0
LiteralForm (Literal.Text t) = IsUtf8 t
LiteralForm l = Unit {0}

literal_written : (l : Literal) → LiteralForm l → WrittenAs (shown_literal l) 0 (Draft.Literal l)
literal_written Literal.Null h = record { opens = λ more. refl; reads = weaken (sign_reads null_read) (literal_of Literal.Null) }
literal_written (Literal.Bool true) h = record { opens = λ more. refl; reads = weaken (sign_reads true_read) (literal_of (Literal.Bool true)) }
literal_written (Literal.Bool false) h = record { opens = λ more. refl; reads = weaken (sign_reads false_read) (literal_of (Literal.Bool false)) }
literal_written (Literal.Text t) h = record { opens = λ more. refl; reads = weaken (sign_reads (λ at more s. text_read at t more h)) (literal_of (Literal.Text t)) }

pub written-Literal : (l : Literal) → LiteralForm l → Written (Draft.Literal l) 0
written-Literal l h = written _ _ (Draft.Literal l) (shown-Literal l) (literal_written l h)

name_of : (n : Name) (from rest : List Token) → Named n.text from rest → As Proper 0 (Draft.Name n) from rest
name_of n from rest (named {n = m} h) = (Draft.Name m, Proper.name, alike-Name n m h, none_more (openings rest))

pub written-Name : (n : Name) → is_name n.text ≡ true → Written (Draft.Name n) 0
written-Name n h = written _ _ (Draft.Name n) (shown-Name n) (record { opens = λ more. word_begins n.text more (name_is_word n.text h); reads = weaken (name_reads n.text h) (name_of n) })

-- ---- several

-- families of several trees
abbrev pub AllAs : (List Token → List Token → List Draft → Type 0) → ℕ → List Draft → List Token → List Token → Type 0
AllAs R n ds from rest = (es : List Draft) × R from rest es × AllAlike ds es × (openings from ≡ n + openings rest)

abbrev pub PairsAs : (List Token → List Token → List DraftPair → Type 0) → ℕ → List DraftPair → List Token → List Token → Type 0
PairsAs R n ps from rest = (qs : List DraftPair) × R from rest qs × AllPairsAlike ps qs × (openings from ≡ n + openings rest)

-- the same tokens
data Nothing : List Token → List Token → Type 0 where
  nothing : {rest : List Token} → Nothing rest rest

nothing_read : Reads stops [] Nothing
nothing_read = record { reads = λ more h at after d. (after, subst (λ n. Lexes n more after None) (omega arith) d, nothing) }

last_of : (d : Draft) (n : ℕ) (from rest : List Token) → As (Spelled 0) n d from rest → AllAs Some_of (n + 0) (d ∷ []) from rest
last_of d n from rest (e, x, a, c) = (e ∷ [], last_one x, (a, tt), no_more_count _ _ _ c)

more_of : (d : Draft) (ds : List Draft) (n m : ℕ) (from rest : List Token) → Joined (As (Spelled 0) n d) (Joined (Sign Token.Comma) (AllAs Some_of m ds)) from rest → AllAs Some_of (n + m) (d ∷ ds) from rest
more_of d ds n m from rest (joined (e, x, a, c) (joined sign (es, xs, as_, cs))) = (e ∷ es, one_more x xs, (a, as_), two_counts _ _ _ _ _ c cs)

some_read : (d : Draft) (ds : List Draft) (n m : ℕ) → Written d n → AllWritten ds m → Reads stops (listed (map shown (d ∷ ds))) (AllAs Some_of (n + m) (d ∷ ds))
some_read d [] n m w none_written = weaken (whole_of d n w) (last_of d n)
some_read d (e ∷ es) n m w (more_written {n = k} {m = l} v vs) =
    weaken (join (whole_of d n w) (λ more h. refl) (join comma (λ more h. refl) (behind_space (some_read e es k l v vs)))) (more_of d (e ∷ es) n (k + l))

none_of : (from rest : List Token) → Nothing from rest → AllAs Arguments 0 [] from rest
none_of from rest nothing = ([], no_arguments, tt, none_more (openings rest))

arguments_read : (ds : List Draft) (n : ℕ) → AllWritten ds n → Reads stops (listed (map shown ds)) (AllAs Arguments n ds)
arguments_read [] n none_written = weaken nothing_read none_of
arguments_read (d ∷ ds) n (more_written {n = k} {m = l} w ws) = weaken (some_read d ds k l w ws) (λ from rest x. (x.0, arguments x.1, x.2, x.3))

list_of : (ds : List Draft) (n : ℕ) (from rest : List Token) → Joined (Sign (Token.Open Square)) (Joined (AllAs Arguments n ds) (Sign (Token.Close Square))) from rest → As Proper n (draft.List ds) from rest
list_of ds n from rest (joined sign (joined (es, xs, a, c) sign)) = (draft.List es, Proper.list (plain xs), alike-List ds es a, c)

pub written-List : (ds : List Draft) (n : ℕ) → AllWritten ds n → Written (draft.List ds) n
written-List ds n ws = written _ _ (draft.List ds) (shown-List ds) (record {
  opens = λ more. refl;
  reads = weaken (join open_square (λ more h. refl) (join (arguments_read ds n ws) (λ more h. refl) close_square)) (list_of ds n);
})

-- ---- pairs

pair_of_tokens : (p : DraftPair) (n m : ℕ) (from rest : List Token) → Joined (As (Spelled 0) n p.key) (Joined (Sign Token.Colon) (As (Spelled 0) m p.value)) from rest → PairsAs Pairs_of ((n + m) + 0) (p ∷ []) from rest
pair_of_tokens p n m from rest (joined (k, x, a, c) (joined sign (v, y, b, d))) = (pair_of k v ∷ [], last_pair x y, (record { key = a; value = b }, tt), no_more_count _ _ _ (two_counts _ _ _ _ _ c d))

more_pairs_of : (p : DraftPair) (ps : List DraftPair) (n m l : ℕ) (from rest : List Token) →
    Joined (Joined (As (Spelled 0) n p.key) (Joined (Sign Token.Colon) (As (Spelled 0) m p.value))) (Joined (Sign Token.Comma) (PairsAs Pairs_of l ps)) from rest → PairsAs Pairs_of ((n + m) + l) (p ∷ ps) from rest
more_pairs_of p ps n m l from rest (joined (joined (k, x, a, c) (joined sign (v, y, b, d))) (joined sign (qs, zs, as_, cs))) =
    (pair_of k v ∷ qs, pair_more x y zs, (record { key = a; value = b }, as_), four_counts _ _ _ _ _ _ _ c d cs)

pair_read : (p : DraftPair) (n m : ℕ) → PairWritten p n m → Reads stops (shown_pair p) (Joined (As (Spelled 0) n p.key) (Joined (Sign Token.Colon) (As (Spelled 0) m p.value)))
pair_read p n m w = join (whole_of p.key n w.key) (λ more h. refl) (join colon (λ more h. refl) (behind_space (whole_of p.value m w.value)))

pairs_read : (p : DraftPair) (ps : List DraftPair) (n m l : ℕ) → PairWritten p n m → AllPairsWritten ps l → Reads stops (texts_listed (map shown_pair (p ∷ ps))) (PairsAs Pairs_of ((n + m) + l) (p ∷ ps))
pairs_read p [] n m l w no_pairs_written = weaken (pair_read p n m w) (pair_of_tokens p n m)
pairs_read p (q ∷ qs) n m l w (more_pairs_written {n = i} {m = j} {k = k} v vs) =
    weaken (join (pair_read p n m w) (λ more h. refl) (join comma (λ more h. refl) (behind_space (pairs_read q qs i j k v vs)))) (more_pairs_of p (q ∷ qs) n m ((i + j) + k))

no_pairs_of : (from rest : List Token) → Nothing from rest → PairsAs Entries 0 [] from rest
no_pairs_of from rest nothing = ([], no_entries, tt, none_more (openings rest))

entries_read : (ps : List DraftPair) (n : ℕ) → AllPairsWritten ps n → Reads stops (texts_listed (map shown_pair ps)) (PairsAs Entries n ps)
entries_read [] n no_pairs_written = weaken nothing_read no_pairs_of
entries_read (p ∷ ps) n (more_pairs_written {n = i} {m = j} {k = k} w ws) = weaken (pairs_read p ps i j k w ws) (λ from rest x. (x.0, entries x.1, x.2, x.3))

table_of : (ps : List DraftPair) (n : ℕ) (from rest : List Token) → Joined (Sign (Token.Open Curly)) (Joined (PairsAs Entries n ps) (Sign (Token.Close Curly))) from rest → As Proper n (draft.Map ps) from rest
table_of ps n from rest (joined sign (joined (qs, xs, a, c) sign)) = (draft.Map qs, Proper.table xs, alike-Map ps qs a, c)

pub written-Map : (ps : List DraftPair) (n : ℕ) → AllPairsWritten ps n → Written (draft.Map ps) n
written-Map ps n ws = written _ _ (draft.Map ps) (shown-Map ps) (record {
  opens = λ more. refl;
  reads = weaken (join open_curly (λ more h. refl) (join (entries_read ps n ws) (λ more h. refl) close_curly)) (table_of ps n);
})

-- ---- members

select_of : (d : Draft) (n : Name) (k : ℕ) (from rest : List Token) → Joined (As Member k d) (Joined (Sign Token.Dot) (Field n.text)) from rest → As Proper k (draft.Select d n) from rest
select_of d n k from rest (joined (e, x, a, c) (joined sign (field {t = t} {f = f} h is))) =
    (draft.Select e f, Proper.select h x, alike-Select d e n f a is, c ∙ ap (λ r. k + r) (field_counts t f rest h))

pub written-Select : (d : Draft) (n : Name) (k : ℕ) → Written d k → Reads stops n.text (Field n.text) → Written (draft.Select d n) (cost_at 7 d k)
written-Select d n k w f = written _ _ (draft.Select d n) (shown-Select d n) (record {
  opens = opens_front (at_level 7 (shown d)) _ (opens_least 7 d k w);
  reads = weaken (join (a_member d k w) (λ more h. refl) (join dot (λ more h. refl) f)) (select_of d n (cost_at 7 d k));
})

index_of : (d i : Draft) (k l : ℕ) (from rest : List Token) → Joined (As Member k d) (Joined (Sign (Token.Open Square)) (Joined (As (Spelled 0) l i) (Sign (Token.Close Square)))) from rest → As Proper (k + l) (draft.Index d i) from rest
index_of d i k l from rest (joined (e, x, a, c) (joined sign (joined (j, y, b, cj) sign))) = (draft.Index e j, Proper.index x y, alike-Index d i e j a b, two_counts _ _ _ _ _ c cj)

pub written-Index : (d i : Draft) (k l : ℕ) → Written d k → Written i l → Written (draft.Index d i) (cost_at 7 d k + l)
written-Index d i k l w v = written _ _ (draft.Index d i) (shown-Index d i) (record {
  opens = opens_front (at_level 7 (shown d)) _ (opens_least 7 d k w);
  reads = weaken (join (a_member d k w) (λ more h. refl) (join open_square (λ more h. refl) (join (whole_of i l v) (λ more h. refl) close_square))) (index_of d i (cost_at 7 d k) l);
})

call_of : (n : Name) (ds : List Draft) (k : ℕ) (from rest : List Token) →
    Joined (Named n.text) (Joined (Sign (Token.Open Round)) (Joined (AllAs Arguments k ds) (Sign (Token.Close Round)))) from rest → As Proper (k + 1) (draft.Call n ds) from rest
call_of n ds k from rest (joined (named {n = m} h) (joined sign (joined (es, xs, a, c) sign))) = (draft.Call m es, Proper.call xs, alike-Call n m ds es h a, one_more_count _ _ _ c)

pub written-Call : (n : Name) (ds : List Draft) (k : ℕ) → is_name n.text ≡ true → AllWritten ds k → NoFormFault (call_faults n (length (map seen ds)) (first_selects (map seen ds))) → Written (draft.Call n ds) (k + 1)
written-Call n ds k h ws clean = written _ _ (draft.Call n ds) (shown-Call n ds clean) (record {
  opens = opens_front n.text _ (λ more. word_begins n.text more (name_is_word n.text h));
  reads = weaken (join (name_reads n.text h) (λ more h. refl) (join open_round (λ more h. refl) (join (arguments_read ds k ws) (λ more h. refl) close_round))) (call_of n ds k);
})

method_of : (d : Draft) (n : Name) (ds : List Draft) (k l : ℕ) (from rest : List Token) →
    Joined (As Member k d) (Joined (Sign Token.Dot) (Joined (Field n.text) (Joined (Sign (Token.Open Round)) (Joined (AllAs Arguments l ds) (Sign (Token.Close Round)))))) from rest → As Proper (k + (l + 1)) (draft.Method d n ds) from rest
method_of d n ds k l from rest (joined (e, x, a, c) (joined sign (joined (field {t = t} {f = f} {rest = args} h is) (joined sign (joined (es, xs, b, cs) sign))))) =
    (draft.Method e f es, Proper.method h x xs, alike-Method d e n f ds es a is b, two_counts _ _ _ _ _ (c ∙ ap (λ r. k + r) (field_counts t f args h)) (one_more_count _ _ _ cs))

pub written-Method : (d : Draft) (n : Name) (ds : List Draft) (k l : ℕ) (at : Nesting) → Written d k → Reads stops n.text (Field n.text) → AllWritten ds l →
    NoFormFault (method_faults n (length (map seen ds)) (first_names (map seen ds)) at) → Written (draft.Method d n ds) (cost_at 7 d k + (l + 1))
written-Method d n ds k l at w f ws clean = written _ _ (draft.Method d n ds) (shown-Method d n ds at clean) (record {
  opens = opens_front (at_level 7 (shown d)) _ (opens_least 7 d k w);
  reads = weaken (join (a_member d k w) (λ more h. refl) (join dot (λ more h. refl) (join f (λ more h. refl) (join open_round (λ more h. refl) (join (arguments_read ds l ws) (λ more h. refl) close_round))))) (method_of d n ds (cost_at 7 d k) l);
})
