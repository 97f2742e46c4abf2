-- A tree that some text spells is spelled by its printed text.
use Rattle.std.proofs.Common.{◌≡◌, ℕ, suc, ℤ, pos, negsuc, neg_ℤ, ◌+◌, ◌^◌, ◌<◌, ◌≤◌, Bool, true, false, nat_le, arith, ◌++◌, List, [], ◌∷◌, map, length, Some, None, refl, sym, ap, ◌∙◌, subst}
use Rattle.std.specs.List.{AllByRecursion}
use Rattle.std.proofs.lemmas.Bool.Decides.{nat_tests}
use Rattle.std.proofs.lemmas.List.{append-nil}
use Rattle.cel_values.specs.declared.expr.Expr.{Expr}
use Rattle.cel_tokens.specs.declared.token.Lexeme.{Lexeme}
use Rattle.cel_tokens.specs.declared.token.Literal.{Literal}
use Rattle.cel_tokens.specs.declared.token.Name.{Name}
use Rattle.cel_tokens.specs.declared.token.Token.{Token}
use Rattle.cel_tokens.specs.Lexing.{Lexes, ended}
use Rattle.cel_tokens.proofs.Spellable.{stops, HasForm}
use Rattle.cel_tokens.specs.declared.token.Bracket.TheVariants.{Round, Square, Curly}
use Rattle.cel_tokens.proofs.Formed.{lexed_forms}
use Rattle.cel_tokens.proofs.Lexed.{one_list}
use Rattle.cel_grammar.specs.declared.draft.Draft.{Draft}
use Rattle.cel_grammar.specs.declared.draft.Draft.TheViews as draft
use Rattle.cel_grammar.specs.declared.draft.Draft.TheOpen.{Draft-F}
use Rattle.cel_grammar.specs.declared.draft.DraftPair.{DraftPair}
use Rattle.cel_syntax.specs.declared.macro_faults.Nesting.{Nesting}
use Rattle.cel_grammar.specs.Faults.{kinds}
use Rattle.cel_grammar.specs.Grammar.{strength, TokensSpell, field_of, pair_of, Spelled, up, choice, binary, nots, negs, Nots, unmarked, not_of, Negs, unsigned, signed, neg_of, Member, integer_alone, proper, Proper, Some_of, last_one, one_more, Arguments, no_arguments, arguments, Items, plain, comma_behind, Pairs_of, last_pair, pair_more, Entries, no_entries, entries, entries_comma}
use Rattle.cel_syntax.specs.Macros.{expanded}
use Rattle.cel_syntax.specs.MacroFaults.{Seen, seen_step, seen, pair_seen, all_faults, pair_faults, NoFormFault, first_selects, first_names, call_faults, method_faults, inside, faults_of}
use Rattle.cel_syntax.specs.Parse.{Spells}
use Rattle.cel_syntax.specs.Parentheses.{openings, own, total, pair_total, negated, negated_integers}
use Rattle.cel_syntax.specs.Print.{Form, level, may_be_inverted, may_be_negated, whole, integer_form, printed, printed_text}
use Rattle.cel_syntax.proofs.Alike.{Alike, left_formed, right_formed}
use Rattle.cel_syntax.proofs.Layers.{seen-List, seen-Map, seen-Select, seen-Index, seen-Call, seen-Method, seen-Not, seen-Neg, seen-Binary, seen-Cond}
use Rattle.cel_syntax.proofs.NegatedLayers.{pair_negated, negated-Int, negated-List, negated-Map, negated-Select, negated-Index, negated-Call, negated-Method, negated-Not, negated-Neg, negated-Binary, negated-Cond}
use Rattle.cel_syntax.proofs.Shown.{shown, shown-Literal, shown-Int, shown-Name, shown-List, shown-Map, shown-Select, shown-Index, shown-Not, shown-Neg, shown-Binary, shown-Call, shown-Method}
use Rattle.cel_syntax.proofs.Texts.{Reads, Field, name_field, reserved_field}
use Rattle.cel_syntax.proofs.Written.{Written, AllWritten, none_written, more_written, AllPairsWritten, no_pairs_written, more_pairs_written, extra, cost_at, operator_counts, field_counts, LiteralForm, whole_of, written-Cond, written-Binary, written-Not, written-Neg, written-pos, written-signed, written-Literal, written-Name, written-List, written-Map, written-Select, written-Index, written-Call, written-Method}

-- ---- tokens that a text can spell

abbrev Formed : List Token → Type 0
Formed [] = Unit {0}
Formed (t ∷ ts) = HasForm t × Formed ts

formed : (ls : List Lexeme) → AllByRecursion (λ l. HasForm l.token) ls → Formed (kinds ls)
formed [] h = tt
formed (l ∷ ls) h = (h.0, formed ls h.1)

mutual
  after_spelled : {l : ℕ} {from rest : List Token} {e : Draft} → Spelled l from rest e → Formed from → Formed rest
  after_spelled (up h d) f = after_spelled d f
  after_spelled (choice dc da db) f = after_spelled db (after_spelled da (after_spelled dc f).1).1
  after_spelled (binary h da db) f = after_spelled db (after_spelled da f).1
  after_spelled (nots d) f = after_nots d f
  after_spelled (negs d) f = after_negs d f

  after_nots : {from rest : List Token} {e : Draft} → Nots from rest e → Formed from → Formed rest
  after_nots (unmarked d) f = after_member d f
  after_nots (not_of d) f = after_nots d f.1

  after_negs : {from rest : List Token} {e : Draft} → Negs from rest e → Formed from → Formed rest
  after_negs (unsigned d) f = after_proper d f
  after_negs signed f = f.1.1
  after_negs (neg_of d) f = after_negs d f.1

  after_member : {from rest : List Token} {e : Draft} → Member from rest e → Formed from → Formed rest
  after_member integer_alone f = f.1
  after_member (proper d) f = after_proper d f

  after_proper : {from rest : List Token} {e : Draft} → Proper from rest e → Formed from → Formed rest
  after_proper Proper.name f = f.1
  after_proper Proper.literal f = f.1
  after_proper (Proper.group d) f = (after_spelled d f.1).1
  after_proper (Proper.list d) f = (after_items d f.1).1
  after_proper (Proper.table d) f = (after_entries d f.1).1
  after_proper (Proper.call d) f = (after_arguments d f.1.1).1
  after_proper (Proper.select h d) f = (after_member d f).1.1
  after_proper (Proper.method h d ds) f = (after_arguments ds (after_member d f).1.1.1).1
  after_proper (Proper.index d di) f = (after_spelled di (after_member d f).1).1

  after_some : {from rest : List Token} {es : List Draft} → Some_of from rest es → Formed from → Formed rest
  after_some (last_one d) f = after_spelled d f
  after_some (one_more d ds) f = after_some ds (after_spelled d f).1

  after_arguments : {from rest : List Token} {es : List Draft} → Arguments from rest es → Formed from → Formed rest
  after_arguments no_arguments f = f
  after_arguments (arguments ds) f = after_some ds f

  after_items : {from rest : List Token} {es : List Draft} → Items from rest es → Formed from → Formed rest
  after_items (plain ds) f = after_arguments ds f
  after_items (comma_behind ds) f = (after_some ds f).1

  after_pairs : {from rest : List Token} {ps : List DraftPair} → Pairs_of from rest ps → Formed from → Formed rest
  after_pairs (last_pair dk dv) f = after_spelled dv (after_spelled dk f).1
  after_pairs (pair_more dk dv ds) f = after_pairs ds (after_spelled dv (after_spelled dk f).1).1

  after_entries : {from rest : List Token} {ps : List DraftPair} → Entries from rest ps → Formed from → Formed rest
  after_entries no_entries f = f
  after_entries (entries ds) f = after_pairs ds f
  after_entries (entries_comma ds) f = (after_pairs ds f).1

-- ---- trees in which each macro has its form, at some nesting

record Clean (d : Draft) : Type 0 where
  nesting : Nesting
  none : NoFormFault ((seen d).faults nesting)

record AllClean (ds : List Draft) : Type 0 where
  nesting : Nesting
  none : NoFormFault (all_faults (map seen ds) nesting)

record PairsClean (ps : List DraftPair) : Type 0 where
  nesting : Nesting
  none : NoFormFault (pair_faults (map pair_seen ps) nesting)

faults_at : (d : Draft) (s : Seen) → seen d ≡ s → (c : Clean d) → NoFormFault (s.faults c.nesting)
faults_at d s is c = subst (λ v. NoFormFault (v.faults c.nesting)) is c.none

first_clean : (d : Draft) (ds : List Draft) → AllClean (d ∷ ds) → Clean d
first_clean d ds c = record { nesting = c.nesting; none = left_formed ((seen d).faults c.nesting) (all_faults (map seen ds) c.nesting) c.none }

others_clean : (d : Draft) (ds : List Draft) → AllClean (d ∷ ds) → AllClean ds
others_clean d ds c = record { nesting = c.nesting; none = right_formed ((seen d).faults c.nesting) (all_faults (map seen ds) c.nesting) c.none }

own_clean : (p : DraftPair) (ps : List DraftPair) → (c : PairsClean (p ∷ ps)) → NoFormFault (pair_seen p c.nesting)
own_clean p ps c = left_formed (pair_seen p c.nesting) (pair_faults (map pair_seen ps) c.nesting) c.none

key_clean : (p : DraftPair) (ps : List DraftPair) → PairsClean (p ∷ ps) → Clean p.key
key_clean p ps c = record { nesting = c.nesting; none = left_formed ((seen p.key).faults c.nesting) ((seen p.value).faults c.nesting) (own_clean p ps c) }

value_clean : (p : DraftPair) (ps : List DraftPair) → PairsClean (p ∷ ps) → Clean p.value
value_clean p ps c = record { nesting = c.nesting; none = right_formed ((seen p.key).faults c.nesting) ((seen p.value).faults c.nesting) (own_clean p ps c) }

other_pairs_clean : (p : DraftPair) (ps : List DraftPair) → PairsClean (p ∷ ps) → PairsClean ps
other_pairs_clean p ps c = record { nesting = c.nesting; none = right_formed (pair_seen p c.nesting) (pair_faults (map pair_seen ps) c.nesting) c.none }

in_not : (d : Draft) → Clean (draft.Not d) → Clean d
in_not d c = record { nesting = c.nesting; none = faults_at (draft.Not d) (seen_step (Draft-F.Not (seen d))) (seen-Not d) c }

in_neg : (d : Draft) → Clean (draft.Neg d) → Clean d
in_neg d c = record { nesting = c.nesting; none = faults_at (draft.Neg d) (seen_step (Draft-F.Neg (seen d))) (seen-Neg d) c }

in_select : (d : Draft) (n : Name) → Clean (draft.Select d n) → Clean d
in_select d n c = record { nesting = c.nesting; none = faults_at (draft.Select d n) (seen_step (Draft-F.Select (seen d) n)) (seen-Select d n) c }

in_list : (ds : List Draft) → Clean (draft.List ds) → AllClean ds
in_list ds c = record { nesting = c.nesting; none = faults_at (draft.List ds) (seen_step (Draft-F.List (map seen ds))) (seen-List ds) c }

in_table : (ps : List DraftPair) → Clean (draft.Map ps) → PairsClean ps
in_table ps c = record { nesting = c.nesting; none = faults_at (draft.Map ps) (seen_step (Draft-F.Map (map pair_seen ps))) (seen-Map ps) c }

-- two parts
record Two (a b : Draft) : Type 0 where
  left : Clean a
  right : Clean b

two_clean : (a b : Draft) (n : Nesting) → NoFormFault ((seen a).faults n ++ (seen b).faults n) → Two a b
two_clean a b n h = record {
  left = record { nesting = n; none = left_formed ((seen a).faults n) ((seen b).faults n) h };
  right = record { nesting = n; none = right_formed ((seen a).faults n) ((seen b).faults n) h };
}

in_index : (a b : Draft) → Clean (draft.Index a b) → Two a b
in_index a b c = two_clean a b c.nesting (faults_at (draft.Index a b) (seen_step (Draft-F.Index (seen a) (seen b))) (seen-Index a b) c)

in_binary : (op : _) (a b : Draft) → Clean (draft.Binary op a b) → Two a b
in_binary op a b c = two_clean a b c.nesting (faults_at (draft.Binary op a b) (seen_step (Draft-F.Binary op (seen a) (seen b))) (seen-Binary op a b) c)

choice_faults : (c a b : Draft) (k : Clean (draft.Cond c a b)) → NoFormFault ((seen c).faults k.nesting ++ ((seen a).faults k.nesting ++ (seen b).faults k.nesting))
choice_faults c a b k = faults_at (draft.Cond c a b) (seen_step (Draft-F.Cond (seen c) (seen a) (seen b))) (seen-Cond c a b) k

in_condition : (c a b : Draft) → Clean (draft.Cond c a b) → Clean c
in_condition c a b k = record { nesting = k.nesting; none = left_formed ((seen c).faults k.nesting) ((seen a).faults k.nesting ++ (seen b).faults k.nesting) (choice_faults c a b k) }

in_choices : (c a b : Draft) → Clean (draft.Cond c a b) → Two a b
in_choices c a b k = two_clean a b k.nesting (right_formed ((seen c).faults k.nesting) ((seen a).faults k.nesting ++ (seen b).faults k.nesting) (choice_faults c a b k))

-- a call whose macros have their forms
record CallClean (n : Name) (ds : List Draft) : Type 0 where
  own : NoFormFault (call_faults n (length (map seen ds)) (first_selects (map seen ds)))
  parts : AllClean ds

in_call : (n : Name) (ds : List Draft) → Clean (draft.Call n ds) → CallClean n ds
in_call n ds c =
    let own = call_faults n (length (map seen ds)) (first_selects (map seen ds)) in
    let all = faults_at (draft.Call n ds) (seen_step (Draft-F.Call n (map seen ds))) (seen-Call n ds) c in
    record { own = left_formed own (all_faults (map seen ds) c.nesting) all; parts = record { nesting = c.nesting; none = right_formed own (all_faults (map seen ds) c.nesting) all } }

record MethodClean (d : Draft) (n : Name) (ds : List Draft) : Type 0 where
  nesting : Nesting
  target : Clean d
  own : NoFormFault (method_faults n (length (map seen ds)) (first_names (map seen ds)) nesting)
  parts : AllClean ds

in_method : (d : Draft) (n : Name) (ds : List Draft) → Clean (draft.Method d n ds) → MethodClean d n ds
in_method d n ds c =
    let within = inside n (length (map seen ds)) c.nesting in
    let own = method_faults n (length (map seen ds)) (first_names (map seen ds)) c.nesting in
    let all = faults_at (draft.Method d n ds) (seen_step (Draft-F.Method (seen d) n (map seen ds))) (seen-Method d n ds) c in
    let back = right_formed ((seen d).faults c.nesting) (own ++ all_faults (map seen ds) within) all in
    record {
      nesting = c.nesting;
      target = record { nesting = c.nesting; none = left_formed ((seen d).faults c.nesting) (own ++ all_faults (map seen ds) within) all };
      own = left_formed own (all_faults (map seen ds) within) back;
      parts = record { nesting = within; none = right_formed own (all_faults (map seen ds) within) back };
    }

-- ---- what is spelled is read back

literal_form : (l : Literal) → HasForm (Token.Literal l) → LiteralForm l
literal_form Literal.Null h = tt
literal_form (Literal.Bool b) h = tt
literal_form (Literal.Text t) h = h

field_text : (t : Token) (f : Name) → field_of t ≡ Some f → HasForm t → Reads stops f.text (Field f.text)
field_text (Token.Name n) f h k = let is : n ≡ f = cc in subst (λ m. Reads stops m.text (Field m.text)) is (name_field n.text k)
field_text (Token.Reserved n) f h k = let is : n ≡ f = cc in subst (λ m. Reads stops m.text (Field m.text)) is (reserved_field n.text k)
field_text (Token.Integer n) f h k = cc
field_text (Token.Literal l) f h k = cc
field_text (Token.Sign op) f h k = cc
field_text Token.Minus f h k = cc
field_text Token.Bang f h k = cc
field_text Token.Question f h k = cc
field_text Token.Colon f h k = cc
field_text Token.Dot f h k = cc
field_text Token.Comma f h k = cc
field_text (Token.Open b) f h k = cc
field_text (Token.Close b) f h k = cc

-- ---- and with no more parentheses than it has, but for those around negated integers

fit : (a b : Bool) → (b ≡ true → a ≡ true) → extra a ≤ extra b
fit true b h = omega arith
fit false true h = let no = h refl in cc
fit false false h = omega arith

at_most_one : (b : Bool) → extra b ≤ 1
at_most_one true = omega arith
at_most_one false = omega arith

abbrev at_form : ℕ → Form → Bool
at_form l f = nat_le l (level f)

abbrev is_member : Form → Bool
is_member Form.choice = false
is_member (Form.binary n) = false
is_member Form.inverse = false
is_member Form.negative = false
is_member Form.integer = false
is_member Form.signed = false
is_member Form.member = true

up_form : (l m : ℕ) → l ≤ m → (f : Form) → nat_le m (level f) ≡ true → nat_le l (level f) ≡ true
up_form l m h f k = grind (arith, nat_tests)

inverted_form : (f : Form) → may_be_inverted f ≡ true → nat_le 6 (level f) ≡ true
inverted_form Form.choice k = cc
inverted_form (Form.binary n) k = grind (arith, nat_tests)
inverted_form Form.inverse k = refl
inverted_form Form.negative k = refl
inverted_form Form.integer k = refl
inverted_form Form.signed k = refl
inverted_form Form.member k = refl

member_inverted : (f : Form) → nat_le 7 (level f) ≡ true → may_be_inverted f ≡ true
member_inverted Form.choice k = k
member_inverted (Form.binary n) k = k
member_inverted Form.inverse k = refl
member_inverted Form.negative k = k
member_inverted Form.integer k = k
member_inverted Form.signed k = k
member_inverted Form.member k = k

proper_member : (f : Form) → is_member f ≡ true → nat_le 7 (level f) ≡ true
proper_member Form.choice k = cc
proper_member (Form.binary n) k = cc
proper_member Form.inverse k = cc
proper_member Form.negative k = cc
proper_member Form.integer k = cc
proper_member Form.signed k = cc
proper_member Form.member k = refl

proper_negated : (f : Form) → is_member f ≡ true → may_be_negated f ≡ true
proper_negated Form.choice k = cc
proper_negated (Form.binary n) k = cc
proper_negated Form.inverse k = cc
proper_negated Form.negative k = cc
proper_negated Form.integer k = cc
proper_negated Form.signed k = cc
proper_negated Form.member k = refl

proper_six : (f : Form) → is_member f ≡ true → nat_le 6 (level f) ≡ true
proper_six f k = up_form 6 7 (omega arith) f (proper_member f k)

-- the tree is read back where a test of its form asks for parentheses, with at most those of these tokens
record Behind (test : Form → Bool) (e : Draft) (from rest : List Token) : Type 0 where
  count : ℕ
  is : Written e count
  fewest : (count + extra (test (shown e).form)) + openings rest ≤ openings from + (negated e).count

-- the same of what may stand behind a `-`, and behind another one
record BehindMinus (e : Draft) (from rest : List Token) : Type 0 where
  count : ℕ
  is : Written e count
  here : (count + extra (nat_le 6 (level (shown e).form))) + openings rest ≤ openings from + (negated e).count
  under : (count + extra (may_be_negated (shown e).form)) + openings rest ≤ openings from + (own (negated e).integer + (negated e).count)

record AllBehind (es : List Draft) (from rest : List Token) : Type 0 where
  count : ℕ
  is : AllWritten es count
  fewest : count + openings rest ≤ openings from + total (map negated es)

record PairsBehind (ps : List DraftPair) (from rest : List Token) : Type 0 where
  count : ℕ
  is : AllPairsWritten ps count
  fewest : count + openings rest ≤ openings from + pair_total (map pair_negated ps)

less : (n x y r f : ℕ) → x ≤ y → (n + y) + r ≤ f → (n + x) + r ≤ f
less n x y r f h0 h1 = omega (arith, h0, h1)

weaker : (t s : Form → Bool) (e : Draft) (from rest : List Token) → ((f : Form) → s f ≡ true → t f ≡ true) → Behind s e from rest → Behind t e from rest
weaker t s e from rest h b = record { count = b.count; is = b.is; fewest = less _ _ _ _ _ (fit (t (shown e).form) (s (shown e).form) (h (shown e).form)) b.fewest }

no_cost : (n z r f : ℕ) → z ≡ 0 → n + r ≤ f → (n + z) + r ≤ f
no_cost n z r f h0 h1 = omega (arith, h0, h1)

-- one part, two, and three
one_part : (a r f g neg z : ℕ) → a + r ≤ f + g → neg ≡ g → z ≡ 0 → (a + z) + r ≤ f + neg
one_part a r f g neg z h0 h1 h2 = omega (arith, h0, h1, h2)

two_parts : (a b p q r f g i neg z : ℕ) → a + p ≤ f + g → p ≡ q → b + r ≤ q + i → neg ≡ g + i → z ≡ 0 → ((a + b) + z) + r ≤ f + neg
two_parts a b p q r f g i neg z h0 h1 h2 h3 h4 = omega (arith, h0, h1, h2, h3, h4)

three_parts : (a b c p q r f g i j neg z : ℕ) → a + p ≤ f + g → b + q ≤ p + i → (c + 0) + r ≤ q + j → neg ≡ g + (i + j) → z ≡ 0 → ((a + (b + c)) + z) + r ≤ f + neg
three_parts a b c p q r f g i j neg z h0 h1 h2 h3 h4 = omega (arith, h0, h1, h2, h3, h4)

at_zero : (x : ℕ) → extra (nat_le 0 x) ≡ 0
at_zero x = let yes_ : nat_le 0 x ≡ true = grind (arith, nat_tests) in ap extra yes_

at_same : (x : ℕ) → extra (nat_le x x) ≡ 0
at_same x = let yes_ : nat_le x x ≡ true = grind (arith, nat_tests) in ap extra yes_

cheap : (n x r f : ℕ) → x ≡ 0 → (n + x) + r ≤ f → (n + 0) + r ≤ f
cheap n x r f h0 h1 = omega (arith, h0, h1)

-- a member with parts
member_of : (e : Draft) (text : List ℕ) (n : ℕ) (from rest : List Token) → shown e ≡ whole text → Written e n → n + openings rest ≤ openings from + (negated e).count → Behind is_member e from rest
member_of e text n from rest h w k = record { count = n; is = w; fewest = no_cost _ _ _ _ (ap (λ p. extra (is_member p.form)) h) k }

nothing_more : (r g : ℕ) → 0 + r ≤ r + g
nothing_more r g = omega arith

literal_of : (l : Literal) (rest : List Token) → LiteralForm l → Behind is_member (Draft.Literal l) (Token.Literal l ∷ rest) rest
literal_of Literal.Null rest h = member_of (Draft.Literal Literal.Null) _ 0 _ rest (shown-Literal Literal.Null) (written-Literal Literal.Null h) (nothing_more _ _)
literal_of (Literal.Bool b) rest h = member_of (Draft.Literal (Literal.Bool b)) _ 0 _ rest (shown-Literal (Literal.Bool b)) (written-Literal (Literal.Bool b) h) (nothing_more _ _)
literal_of (Literal.Text t) rest h = member_of (Draft.Literal (Literal.Text t)) _ 0 _ rest (shown-Literal (Literal.Text t)) (written-Literal (Literal.Text t) h) (nothing_more _ _)

grouped_again : (n z x r m g : ℕ) → z ≤ 1 → (n + x) + r ≤ m + g → (n + z) + r ≤ suc m + g
grouped_again n z x r m g h0 h1 = omega (arith, h0, h1)

integer_cost : (z : ℤ) → extra (nat_le 6 (level (integer_form z))) ≡ 0
integer_cost (pos n) = refl
integer_cost (negsuc n) = refl

integer_negated : (z : ℤ) → extra (may_be_negated (integer_form z)) ≡ 1
integer_negated (pos n) = refl
integer_negated (negsuc n) = refl

integer_here : (x r g : ℕ) → x ≡ 0 → (0 + x) + r ≤ r + g
integer_here x r g h0 = omega (arith, h0)

integer_under : (x r i g : ℕ) → x ≡ 1 → i ≡ 1 → (0 + x) + r ≤ r + (i + g)
integer_under x r i g h0 h1 = omega (arith, h0, h1)

signed_found : (n : ℕ) (rest : List Token) → n < 2 ^ 64 → BehindMinus (Draft.Int (neg_ℤ (pos n))) (Token.Minus ∷ Token.Integer n ∷ rest) rest
signed_found n rest h =
    let z = neg_ℤ (pos n) in
    record {
      count = 0;
      is = written-signed n h;
      here = integer_here _ _ _ (ap (λ p. extra (nat_le 6 (level p.form))) (shown-Int z) ∙ integer_cost z);
      under = integer_under _ _ _ _ (ap (λ p. extra (may_be_negated p.form)) (shown-Int z) ∙ integer_negated z) (ap (λ m. own m.integer) (negated-Int z));
    }

alone_found : (n : ℕ) (rest : List Token) → n < 2 ^ 64 → Behind (at_form 7) (Draft.Int (pos n)) (Token.Integer n ∷ rest) rest
alone_found n rest h = record { count = 0; is = written-pos n h; fewest = integer_here _ _ _ (ap (λ p. extra (nat_le 7 (level p.form))) (shown-Int (pos n))) }

more_under : (n x r f i g : ℕ) → (n + x) + r ≤ f + g → (n + x) + r ≤ f + (i + g)
more_under n x r f i g h0 = omega (arith, h0)

unsigned_found : (e : Draft) (from rest : List Token) → Behind is_member e from rest → BehindMinus e from rest
unsigned_found e from rest b =
    let f = (shown e).form in
    record {
      count = b.count;
      is = b.is;
      here = less _ _ _ _ _ (fit (nat_le 6 (level f)) (is_member f) (proper_six f)) b.fewest;
      under = more_under _ _ _ _ _ _ (less _ _ _ _ _ (fit (may_be_negated f) (is_member f) (proper_negated f)) b.fewest);
    }

neg_under : (a r f g neg z i : ℕ) → a + r ≤ f + g → neg ≡ g → z ≡ 0 → (a + z) + r ≤ f + (i + neg)
neg_under a r f g neg z i h0 h1 h2 = omega (arith, h0, h1, h2)

neg_found : (e : Draft) (mid rest : List Token) → BehindMinus e mid rest → BehindMinus (draft.Neg e) (Token.Minus ∷ mid) rest
neg_found e mid rest b =
    let sum = ap (λ m. m.count) (negated-Neg e) in
    record {
      count = b.count + extra (may_be_negated (shown e).form);
      is = written-Neg e b.count b.is;
      here = one_part _ _ _ _ _ _ b.under sum (ap (λ p. extra (nat_le 6 (level p.form))) (shown-Neg e));
      under = neg_under _ _ _ _ _ _ _ b.under sum (ap (λ p. extra (may_be_negated p.form)) (shown-Neg e));
    }

pair_sum : (n m k p q r f g h i : ℕ) → (n + 0) + p ≤ f + g → (m + 0) + q ≤ p + h → k + r ≤ q + i → ((n + m) + k) + r ≤ f + ((g + h) + i)
pair_sum n m k p q r f g h i h0 h1 h2 = omega (arith, h0, h1, h2)

last_sum : (n m q r f g h : ℕ) → (n + 0) + q ≤ f + g → (m + 0) + r ≤ q + h → ((n + m) + 0) + r ≤ f + ((g + h) + 0)
last_sum n m q r f g h h0 h1 = omega (arith, h0, h1)

some_sum : (n m p r f g h : ℕ) → (n + 0) + p ≤ f + g → m + r ≤ p + h → (n + m) + r ≤ f + (g + h)
some_sum n m p r f g h h0 h1 = omega (arith, h0, h1)

one_sum : (n r f g : ℕ) → (n + 0) + r ≤ f + g → (n + 0) + r ≤ f + (g + 0)
one_sum n r f g h0 = omega (arith, h0)

call_sum : (n r m g neg : ℕ) → n + r ≤ m + g → neg ≡ g → (n + 1) + r ≤ suc m + neg
call_sum n r m g neg h0 h1 = omega (arith, h0, h1)

list_sum : (n r m g neg : ℕ) → n + r ≤ m + g → neg ≡ g → n + r ≤ m + neg
list_sum n r m g neg h0 h1 = omega (arith, h0, h1)

select_sum : (a p r f g neg : ℕ) → a + p ≤ f + g → p ≡ r → neg ≡ g → a + r ≤ f + neg
select_sum a p r f g neg h0 h1 h2 = omega (arith, h0, h1, h2)

method_sum : (a k p q r f g h neg : ℕ) → a + p ≤ f + g → p ≡ suc q → k + r ≤ q + h → neg ≡ g + h → (a + (k + 1)) + r ≤ f + neg
method_sum a k p q r f g h neg h0 h1 h2 h3 = omega (arith, h0, h1, h2, h3)

index_sum : (a k p r f g h neg : ℕ) → a + p ≤ f + g → (k + 0) + r ≤ p + h → neg ≡ g + h → (a + k) + r ≤ f + neg
index_sum a k p r f g h neg h0 h1 h2 = omega (arith, h0, h1, h2)

-- what stands at level 0 needs none of its own
at_bottom : (e : Draft) (from rest : List Token) → (b : Behind (at_form 0) e from rest) → (b.count + 0) + openings rest ≤ openings from + (negated e).count
at_bottom e from rest b = cheap _ _ _ _ (at_zero (level (shown e).form)) b.fewest

mutual
  by_spelled : {l : ℕ} {from rest : List Token} {e : Draft} → Spelled l from rest e → Formed from → Clean e → Behind (at_form l) e from rest
  by_spelled {l} {from} {rest} {e} (up {m = m} h d) f c = weaker (at_form l) (at_form m) e from rest (up_form l m h) (by_spelled d f c)
  by_spelled {l} {from} {rest} (choice {m1 = m1} {m2 = m2} {c = x} {a = a} {b = b} dc da db) f c =
      let f1 = (after_spelled dc f).1 in
      let two = in_choices x a b c in
      let rx = by_spelled dc f (in_condition x a b c) in
      let ra = by_spelled da f1 two.left in
      let rb = by_spelled db (after_spelled da f1).1 two.right in
      record {
        count = cost_at 1 x rx.count + (cost_at 1 a ra.count + rb.count);
        is = written-Cond x a b rx.count ra.count rb.count rx.is ra.is rb.is;
        fewest = three_parts _ _ _ _ _ _ _ _ _ _ _ _ rx.fewest ra.fewest (at_bottom b m2 rest rb) (ap (λ m. m.count) (negated-Cond x a b)) (at_zero (level (shown (draft.Cond x a b)).form));
      }
  by_spelled {l} {from} {rest} (binary {t = t} {op = op} {mid = mid} {a = a} {b = b} h da db) f c =
      let two = in_binary op a b c in
      let ra = by_spelled da f two.left in
      let rb = by_spelled db (after_spelled da f).1 two.right in
      record {
        count = cost_at (strength op) a ra.count + cost_at (strength op + 1) b rb.count;
        is = written-Binary op a b ra.count rb.count ra.is rb.is;
        fewest = two_parts _ _ _ _ _ _ _ _ _ _ ra.fewest (operator_counts t op mid h) rb.fewest (ap (λ m. m.count) (negated-Binary op a b))
            (ap (λ p. extra (nat_le (strength op) (level p.form))) (shown-Binary op a b) ∙ at_same (strength op));
      }
  by_spelled {l} {from} {rest} {e} (nots d) f c = weaker (at_form 6) may_be_inverted e from rest inverted_form (by_nots d f c)
  by_spelled {l} {from} {rest} {e} (negs d) f c = let b = by_negs d f c in record { count = b.count; is = b.is; fewest = b.here }

  by_nots : {from rest : List Token} {e : Draft} → Nots from rest e → Formed from → Clean e → Behind may_be_inverted e from rest
  by_nots {from} {rest} {e} (unmarked d) f c = weaker may_be_inverted (at_form 7) e from rest member_inverted (by_member d f c)
  by_nots (not_of {e = e} d) f c =
      let b = by_nots d f.1 (in_not e c) in
      record {
        count = b.count + extra (may_be_inverted (shown e).form);
        is = written-Not e b.count b.is;
        fewest = one_part _ _ _ _ _ _ b.fewest (ap (λ m. m.count) (negated-Not e)) (ap (λ p. extra (may_be_inverted p.form)) (shown-Not e));
      }

  by_negs : {from rest : List Token} {e : Draft} → Negs from rest e → Formed from → Clean e → BehindMinus e from rest
  by_negs {from} {rest} {e} (unsigned d) f c = unsigned_found e from rest (by_proper d f c)
  by_negs (signed {n = n} {rest = rest}) f c = signed_found n rest f.1.0
  by_negs (neg_of {mid = mid} {rest = rest} {e = e} d) f c = neg_found e mid rest (by_negs d f.1 (in_neg e c))

  by_member : {from rest : List Token} {e : Draft} → Member from rest e → Formed from → Clean e → Behind (at_form 7) e from rest
  by_member (integer_alone {n = n} {rest = rest}) f c = alone_found n rest f.0
  by_member {from} {rest} {e} (proper d) f c = weaker (at_form 7) is_member e from rest proper_member (by_proper d f c)

  by_proper : {from rest : List Token} {e : Draft} → Proper from rest e → Formed from → Clean e → Behind is_member e from rest
  by_proper {from} {rest} (Proper.name {n = n}) f c = member_of (Draft.Name n) n.text 0 from rest (shown-Name n) (written-Name n f.0) (nothing_more _ _)
  by_proper {from} {rest} (Proper.literal {l = l}) f c = literal_of l rest (literal_form l f.0)
  by_proper {from} {rest} {e} (Proper.group {mid = mid} d) f c =
      let b = by_spelled d f.1 c in
      record { count = b.count; is = b.is; fewest = grouped_again _ _ _ _ _ _ (at_most_one (is_member (shown e).form)) b.fewest }
  by_proper {from} {rest} (Proper.list {es = es} d) f c =
      let b = by_items d f.1 (in_list es c) in
      member_of (draft.List es) _ b.count from rest (shown-List es) (written-List es b.count b.is) (list_sum _ _ _ _ _ b.fewest (ap (λ m. m.count) (negated-List es)))
  by_proper {from} {rest} (Proper.table {ps = ps} d) f c =
      let b = by_entries d f.1 (in_table ps c) in
      member_of (draft.Map ps) _ b.count from rest (shown-Map ps) (written-Map ps b.count b.is) (list_sum _ _ _ _ _ b.fewest (ap (λ m. m.count) (negated-Map ps)))
  by_proper {from} {rest} (Proper.call {n = n} {es = es} d) f c =
      let k = in_call n es c in
      let b = by_arguments d f.1.1 k.parts in
      member_of (draft.Call n es) _ (b.count + 1) from rest (shown-Call n es k.own) (written-Call n es b.count f.0 b.is k.own) (call_sum _ _ _ _ _ b.fewest (ap (λ m. m.count) (negated-Call n es)))
  by_proper {from} {rest} (Proper.select {t = t} {f = g} {e = e} h d) f c =
      let b = by_member d f (in_select e g c) in
      member_of (draft.Select e g) _ (cost_at 7 e b.count) from rest (shown-Select e g) (written-Select e g b.count b.is (field_text t g h (after_member d f).1.0))
      (select_sum _ _ _ _ _ _ b.fewest (field_counts t g rest h) (ap (λ m. m.count) (negated-Select e g)))
  by_proper {from} {rest} (Proper.method {t = t} {f = g} {mid = mid} {e = e} {es = es} h d ds) f c =
      let k = in_method e g es c in
      let f1 = after_member d f in
      let b = by_member d f k.target in
      let bs = by_arguments ds f1.1.1.1 k.parts in
      member_of (draft.Method e g es) _ (cost_at 7 e b.count + (bs.count + 1)) from rest (shown-Method e g es k.nesting k.own)
      (written-Method e g es b.count bs.count k.nesting b.is (field_text t g h f1.1.0) bs.is k.own)
      (method_sum _ _ _ _ _ _ _ _ _ b.fewest (field_counts t g (Token.Open Round ∷ mid) h) bs.fewest (ap (λ m. m.count) (negated-Method e g es)))
  by_proper {from} {rest} (Proper.index {mid = mid} {e = e} {i = i} d di) f c =
      let two = in_index e i c in
      let b = by_member d f two.left in
      let bi = by_spelled di (after_member d f).1 two.right in
      member_of (draft.Index e i) _ (cost_at 7 e b.count + bi.count) from rest (shown-Index e i) (written-Index e i b.count bi.count b.is bi.is)
      (index_sum _ _ _ _ _ _ _ _ b.fewest (at_bottom i mid (Token.Close Square ∷ rest) bi) (ap (λ m. m.count) (negated-Index e i)))

  by_some : {from rest : List Token} {es : List Draft} → Some_of from rest es → Formed from → AllClean es → AllBehind es from rest
  by_some {from} {rest} (last_one {e = e} d) f c =
      let b = by_spelled d f (first_clean e [] c) in
      record { count = b.count + 0; is = more_written b.is none_written; fewest = one_sum _ _ _ _ (at_bottom e from rest b) }
  by_some {from} {rest} (one_more {mid = mid} {e = e} {es = es} d ds) f c =
      let b = by_spelled d f (first_clean e es c) in
      let bs = by_some ds (after_spelled d f).1 (others_clean e es c) in
      record { count = b.count + bs.count; is = more_written b.is bs.is; fewest = some_sum _ _ _ _ _ _ _ (at_bottom e from (Token.Comma ∷ mid) b) bs.fewest }

  by_arguments : {from rest : List Token} {es : List Draft} → Arguments from rest es → Formed from → AllClean es → AllBehind es from rest
  by_arguments no_arguments f c = record { count = 0; is = none_written; fewest = nothing_more _ _ }
  by_arguments (arguments ds) f c = by_some ds f c

  by_items : {from rest : List Token} {es : List Draft} → Items from rest es → Formed from → AllClean es → AllBehind es from rest
  by_items (plain ds) f c = by_arguments ds f c
  by_items (comma_behind ds) f c = let b = by_some ds f c in record { count = b.count; is = b.is; fewest = b.fewest }

  by_pairs : {from rest : List Token} {ps : List DraftPair} → Pairs_of from rest ps → Formed from → PairsClean ps → PairsBehind ps from rest
  by_pairs {from} {rest} (last_pair {mid = mid} {k = k} {v = v} dk dv) f c =
      let bk = by_spelled dk f (key_clean (pair_of k v) [] c) in
      let bv = by_spelled dv (after_spelled dk f).1 (value_clean (pair_of k v) [] c) in
      record {
        count = (bk.count + bv.count) + 0;
        is = more_pairs_written (record { key = bk.is; value = bv.is }) no_pairs_written;
        fewest = last_sum _ _ _ _ _ _ _ (at_bottom k from (Token.Colon ∷ mid) bk) (at_bottom v mid rest bv);
      }
  by_pairs {from} {rest} (pair_more {m1 = m1} {m2 = m2} {k = k} {v = v} {ps = ps} dk dv ds) f c =
      let f1 = (after_spelled dk f).1 in
      let bk = by_spelled dk f (key_clean (pair_of k v) ps c) in
      let bv = by_spelled dv f1 (value_clean (pair_of k v) ps c) in
      let bs = by_pairs ds (after_spelled dv f1).1 (other_pairs_clean (pair_of k v) ps c) in
      record {
        count = (bk.count + bv.count) + bs.count;
        is = more_pairs_written (record { key = bk.is; value = bv.is }) bs.is;
        fewest = pair_sum _ _ _ _ _ _ _ _ _ _ (at_bottom k from (Token.Colon ∷ m1) bk) (at_bottom v m1 (Token.Comma ∷ m2) bv) bs.fewest;
      }

  by_entries : {from rest : List Token} {ps : List DraftPair} → Entries from rest ps → Formed from → PairsClean ps → PairsBehind ps from rest
  by_entries no_entries f c = record { count = 0; is = no_pairs_written; fewest = nothing_more _ _ }
  by_entries (entries ds) f c = by_pairs ds f c
  by_entries (entries_comma ds) f c = let b = by_pairs ds f c in record { count = b.count; is = b.is; fewest = b.fewest }

-- ---- the laws

read_back : (d : Draft) (n : ℕ) → Written d n → NoFormFault (faults_of d) → Spells (shown d).text (expanded d)
read_back d n w clean =
    let r = (whole_of d n w).reads [] refl 0 [] ended in
    let e = r.2.0 in
    let a : Alike d e = r.2.2 in
    (e, (r.0, subst (λ t. Lexes 0 t r.0 None) (append-nil (shown d).text) r.1, r.2.1), a.faults Nesting.Outside clean, sym a.tree)

again : (ts : List Token) (d : Draft) → TokensSpell ts d → Formed ts → NoFormFault (faults_of d) → Behind (at_form 0) d ts []
again ts d s f clean = by_spelled s f (record { nesting = Nesting.Outside; none = clean })

pub printed_again : (text : List ℕ) (x : Expr) → Spells text x → Spells (printed_text x) x
unfolding printed_text
printed_again text x s =
    let b = again (kinds s.1.0) s.0 s.1.2 (formed s.1.0 (lexed_forms s.1.1)) s.2 in
    subst (λ y. Spells (printed y).text y) (sym s.3) (read_back s.0 b.count b.is s.2)

plus_none : (c n : ℕ) → c ≡ n + 0 → c ≡ n
plus_none c n h0 = omega (arith, h0)

-- the tokens of the printed text have just the parentheses that were counted
exact_count : (d : Draft) (n : ℕ) (printed_tokens : List Lexeme) → Written d n → Lexes 0 (shown d).text printed_tokens None → openings (kinds printed_tokens) ≡ n
exact_count d n ls w lexes =
    let r = (whole_of d n w).reads [] refl 0 [] ended in
    let same : r.0 ≡ ls = (one_list (subst (λ t. Lexes 0 t r.0 None) (append-nil (shown d).text) r.1) lexes).0 in
    ap (λ l. openings (kinds l)) (sym same) ∙ plus_none _ _ r.2.3

few : (c n x r f g : ℕ) → c ≡ n → (n + x) + r ≤ f + g → c ≤ f + g
few c n x r f g h0 h1 = omega (arith, h0, h1)

pub fewest_parentheses : (text : List ℕ) (tokens printed_tokens : List Lexeme) (d : Draft) → Lexes 0 text tokens None → TokensSpell (kinds tokens) d → NoFormFault (faults_of d) →
    Lexes 0 (printed_text (expanded d)) printed_tokens None → openings (kinds printed_tokens) ≤ openings (kinds tokens) + negated_integers d
unfolding printed_text
fewest_parentheses text tokens ls d lexes s clean printed_lexes =
    let b = again (kinds tokens) d s (formed tokens (lexed_forms lexes)) clean in
    few _ _ _ _ _ _ (exact_count d b.count ls b.is printed_lexes) b.fewest

-- ---- a pair less _ _ _ _ _

sum_none : (n : ℕ) → n ≡ 0 + n
sum_none n = omega arith

sum_more : (n m : ℕ) → suc (n + m) ≡ suc n + m
sum_more n m = omega arith

openings-append : (xs ys : List Token) → openings (xs ++ ys) ≡ openings xs + openings ys
openings-append [] ys = sum_none (openings ys)
openings-append (Token.Open Round ∷ xs) ys = ap (λ n. suc n) (openings-append xs ys) ∙ sum_more (openings xs) (openings ys)
openings-append (Token.Open Square ∷ xs) ys = openings-append xs ys
openings-append (Token.Open Curly ∷ xs) ys = openings-append xs ys
openings-append (Token.Close b ∷ xs) ys = openings-append xs ys
openings-append (Token.Name n ∷ xs) ys = openings-append xs ys
openings-append (Token.Reserved n ∷ xs) ys = openings-append xs ys
openings-append (Token.Integer n ∷ xs) ys = openings-append xs ys
openings-append (Token.Literal l ∷ xs) ys = openings-append xs ys
openings-append (Token.Sign op ∷ xs) ys = openings-append xs ys
openings-append (Token.Minus ∷ xs) ys = openings-append xs ys
openings-append (Token.Bang ∷ xs) ys = openings-append xs ys
openings-append (Token.Question ∷ xs) ys = openings-append xs ys
openings-append (Token.Colon ∷ xs) ys = openings-append xs ys
openings-append (Token.Dot ∷ xs) ys = openings-append xs ys
openings-append (Token.Comma ∷ xs) ys = openings-append xs ys

front_formed : (xs ys : List Token) → Formed (xs ++ ys) → Formed xs
front_formed [] ys f = tt
front_formed (x ∷ xs) ys f = (f.0, front_formed xs ys f.1)

back_formed : (xs ys : List Token) → Formed (xs ++ ys) → Formed ys
back_formed [] ys f = f
back_formed (x ∷ xs) ys f = back_formed xs ys f.1

both_formed_tokens : (xs ys : List Token) → Formed xs → Formed ys → Formed (xs ++ ys)
both_formed_tokens [] ys f g = g
both_formed_tokens (x ∷ xs) ys f g = (f.0, both_formed_tokens xs ys f.1 g)

no_fewer : (c n x r w g a m b mb mc : ℕ) → c ≡ n → (n + x) + r ≤ w + g → g ≡ 0 → w ≡ a + mb → mb ≡ m + b → c ≡ a + suc mc → mc ≡ m + b → ⊥
no_fewer c n x r w g a m b mb mc h0 h1 h2 h3 h4 h5 h6 = omega (arith, h0, h1, h2, h3, h4, h5, h6)

pub pair_needed : (x : Expr) (printed_tokens : List Lexeme) (front mid back : List Token) (d : Draft) → Lexes 0 (printed_text x) printed_tokens None →
    kinds printed_tokens ≡ front ++ (Token.Open Round ∷ (mid ++ (Token.Close Round ∷ back))) → TokensSpell (front ++ (mid ++ back)) d → NoFormFault (faults_of d) → expanded d ≡ x → negated_integers d ≡ 0 → ⊥
unfolding printed_text
pair_needed x ls front mid back d lexes cut s clean same none =
    let all = formed ls (lexed_forms lexes) in
    let whole_ : Formed (front ++ (Token.Open Round ∷ (mid ++ (Token.Close Round ∷ back)))) = subst Formed cut all in
    let inner : Formed (mid ++ (Token.Close Round ∷ back)) = (back_formed front _ whole_).1 in
    let rest = both_formed_tokens front (mid ++ back) (front_formed front _ whole_) (both_formed_tokens mid back (front_formed mid _ inner) (back_formed mid _ inner).1) in
    let b = again (front ++ (mid ++ back)) d s rest clean in
    let count = exact_count d b.count ls b.is (subst (λ y. Lexes 0 (printed y).text ls None) (sym same) lexes) in
    no_fewer _ _ _ _ _ _ _ _ _ _ _ count b.fewest none (openings-append front (mid ++ back)) (openings-append mid back)
    (ap openings cut ∙ openings-append front (Token.Open Round ∷ (mid ++ (Token.Close Round ∷ back)))) (openings-append mid (Token.Close Round ∷ back))
