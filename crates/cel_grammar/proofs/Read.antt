-- What the machine accepts, the grammar spells.
use Rattle.std.proofs.Common.{◌≡◌, ℕ, ◌<◌, ◌≤◌, Bool, true, false, leb, pos, neg_ℤ, List, [], ◌∷◌, ◌++◌, Option, Some, None, IfSome, refl, sym, ap, ◌∙◌, subst, arith}
use Rattle.cel_values.specs.declared.expr.BinaryOp.{BinaryOp}
use Rattle.cel_values.specs.declared.expr.BinaryOp.TheVariants.{Sub}
use Rattle.cel_tokens.specs.declared.token.Bracket.{Bracket}
use Rattle.cel_tokens.specs.declared.token.Bracket.TheVariants.{Round, Square, Curly}
use Rattle.cel_tokens.specs.declared.token.Name.{Name}
use Rattle.cel_tokens.specs.declared.token.Token.{Token}
use Rattle.cel_grammar.specs.declared.draft.Draft.{Draft}
use Rattle.cel_grammar.specs.declared.draft.Draft.TheViews as draft
use Rattle.cel_grammar.specs.declared.draft.DraftPair.{DraftPair}
use Rattle.cel_grammar.specs.declared.frames.Pending.{Pending}
use Rattle.cel_grammar.specs.declared.frames.Pending.TheVariants.{Left, Bang, Minus, Otherwise}
use Rattle.cel_grammar.specs.declared.frames.Single.TheVariants.{Group, At}
use Rattle.cel_grammar.specs.declared.frames.Many.{Many}
use Rattle.cel_grammar.specs.declared.frames.Frame.{Frame}
use Rattle.cel_grammar.specs.declared.frames.Frame.TheVariants.{Waiting, Chosen, One, Several, Key, Value}
use Rattle.cel_grammar.specs.declared.frames.Last.{Last}
use Rattle.cel_grammar.specs.Grammar.{strength, op_of, field_of, pair_of, Spelled, up, choice, binary, nots, negs, Nots, unmarked, not_of, Negs, unsigned, signed, neg_of, Member, integer_alone, proper, Proper, Some_of, last_one, one_more, Arguments, no_arguments, arguments, Items, plain, comma_behind, Pairs_of, last_pair, pair_more, Entries, no_entries, entries, entries_comma}
use Rattle.cel_grammar.specs.Machine.{State, operand, dotted, after, level_of, join, all, all_closer, tree_of, reduce, settle, closed_by, closed_empty, at_colon, at_comma, at_question, at_bang, at_minus, opened, called, opened_after, at_operand, at_dotted, at_after, step, go_on, run, bottom, ended, start}
use Rattle.cel_grammar.proofs.Stack.{Fits, NotMinus, NotBang, binds, le_true, from_true, from_false, one_reduced}

-- ---- what a stack stands for

abbrev pub Opens : Many → List Token → List Token → Type 0
Opens Many.List from inside = from ≡ Token.Open Square ∷ inside
Opens (Many.Call n) from inside = from ≡ Token.Name n ∷ Token.Open Round ∷ inside
Opens (Many.Method e f) from inside = (t : Token) × (field_of t ≡ Some f) × Member from (Token.Dot ∷ t ∷ Token.Open Round ∷ inside) e

-- expressions, with a comma behind each
abbrev pub Front : List Draft → List Token → List Token → Type 0
Front [] from mid = from ≡ mid
Front (e ∷ es) from mid = (m : List Token) × Spelled 0 from (Token.Comma ∷ m) e × Front es m mid

abbrev pub PairFront : List DraftPair → List Token → List Token → Type 0
PairFront [] from mid = from ≡ mid
PairFront (p ∷ ps) from mid = (m n : List Token) × Spelled 0 from (Token.Colon ∷ m) p.key × Spelled 0 m (Token.Comma ∷ n) p.value × PairFront ps n mid

-- what a frame on a stack stands for, from the tokens at a place to those at another
abbrev pub Holds : List Frame → Frame → List Token → List Token → Type 0
Holds st (Waiting (Left a op)) from mid = (t : Token) × (op_of t ≡ Some op) × Spelled (strength op) from (t ∷ mid) a × Fits (strength op) st
Holds st (Waiting Bang) from mid = (from ≡ Token.Bang ∷ mid) × NotMinus st
Holds st (Waiting Minus) from mid = (from ≡ Token.Minus ∷ mid) × NotBang st
Holds st (Waiting (Otherwise c a)) from mid = (m : List Token) × Spelled 1 from (Token.Question ∷ m) c × Spelled 1 m (Token.Colon ∷ mid) a × Fits 0 st
Holds st (Chosen c) from mid = Spelled 1 from (Token.Question ∷ mid) c × Fits 0 st
Holds st (One Group) from mid = from ≡ Token.Open Round ∷ mid
Holds st (One (At e)) from mid = Member from (Token.Open Square ∷ mid) e
Holds st (Several k es) from mid = (inside : List Token) × Opens k from inside × Front es inside mid
Holds st (Key ps) from mid = (inside : List Token) × (from ≡ Token.Open Curly ∷ inside) × PairFront ps inside mid
Holds st (Value ps k) from mid = (inside m : List Token) × (from ≡ Token.Open Curly ∷ inside) × PairFront ps inside m × Spelled 0 m (Token.Colon ∷ mid) k

abbrev pub Stacked : List Token → List Frame → List Token → Type 0
Stacked whole_text [] mid = whole_text ≡ mid
Stacked whole_text (f ∷ st) mid = (from : List Token) × Stacked whole_text st from × Holds st f from mid

abbrev pub ReadsLast : Last → List Token → List Token → Type 0
ReadsLast (Last.Integer n) from rest = from ≡ Token.Integer n ∷ rest
ReadsLast (Last.Name n) from rest = from ≡ Token.Name n ∷ rest
ReadsLast (Last.Field e f) from rest = (t : Token) × (field_of t ≡ Some f) × Member from (Token.Dot ∷ t ∷ rest) e
ReadsLast (Last.Whole e) from rest = Proper from rest e

abbrev pub Reads : List Token → State → List Token → Type 0
Reads text (operand st) rest = Stacked text st rest
Reads text (dotted e st) rest = (from : List Token) × Stacked text st from × Member from (Token.Dot ∷ rest) e
Reads text (after last st) rest = (from : List Token) × Stacked text st from × ReadsLast last from rest

-- ---- reducing

-- an operand and the stack before it, at a level
pub record Settled (text rest : List Token) (l : ℕ) (r : Draft × List Frame) : Type 0 where
  pub level : ℕ
  pub from : List Token
  pub low : l ≤ level
  pub fits : Fits level r.1
  pub stays : 0 < l → Fits l r.1
  pub before : Stacked text r.1 from
  pub reads : Spelled level from rest r.0

one_settled : (text rest : List Token) (l : ℕ) (e : Draft) (p : Pending) (st : List Frame) (b : Bool) → leb l (level_of p) ≡ b →
    (l ≤ level_of p → Settled text rest l (reduce l (join p e) st)) →
    (level_of p < l → Settled text rest l (e, Waiting p ∷ st)) → Settled text rest l (one_reduced b l e p st)
one_settled text rest l e p st true is goes stops = goes (from_true l (level_of p) is)
one_settled text rest l e p st false is goes stops = stops (from_false l (level_of p) is)

level_settled : (text rest : List Token) (l level : ℕ) (from : List Token) (e : Draft) (st : List Frame) → l ≤ level → Fits level st → Stacked text st from → Spelled level from rest e → Settled text rest l (reduce l e st)
level_settled text rest l level from e [] low fits before reads = record { level = level; from = from; low = low; fits = fits; stays = λ _. tt; before = before; reads = reads }
level_settled text rest l level from e (Waiting (Left a op) ∷ st) low fits before reads =
    one_settled text rest l e (Left a op) st (leb l (strength op)) refl
    (λ within. level_settled text rest l (strength op) before.0 (draft.Binary op a e) st within before.2.3 before.1 (binary before.2.1 before.2.2 (up (omega arith) reads)))
    (λ past. record { level = level; from = from; low = low; fits = fits; stays = λ _. past; before = before; reads = reads })
level_settled text rest l level from e (Waiting Bang ∷ st) low fits before reads = absurd fits
level_settled text rest l level from e (Waiting Minus ∷ st) low fits before reads = absurd fits
level_settled text rest l level from e (Waiting (Otherwise c a) ∷ st) low fits before reads =
    one_settled text rest l e (Otherwise c a) st (leb l 0) refl
    (λ within. level_settled text rest l 0 before.0 (draft.Cond c a e) st within before.2.3 before.1 (choice before.2.1 before.2.2 (up (omega arith) reads)))
    (λ past. record { level = level; from = from; low = low; fits = fits; stays = λ _. tt; before = before; reads = reads })
level_settled text rest l level from e (Chosen c ∷ st) low fits before reads = record { level = level; from = from; low = low; fits = fits; stays = λ h. h; before = before; reads = reads }
level_settled text rest l level from e (One k ∷ st) low fits before reads = record { level = level; from = from; low = low; fits = fits; stays = λ _. tt; before = before; reads = reads }
level_settled text rest l level from e (Several k es ∷ st) low fits before reads = record { level = level; from = from; low = low; fits = fits; stays = λ _. tt; before = before; reads = reads }
level_settled text rest l level from e (Key ps ∷ st) low fits before reads = record { level = level; from = from; low = low; fits = fits; stays = λ _. tt; before = before; reads = reads }
level_settled text rest l level from e (Value ps k ∷ st) low fits before reads = record { level = level; from = from; low = low; fits = fits; stays = λ _. tt; before = before; reads = reads }

nots_settled : (text rest : List Token) (l : ℕ) (from : List Token) (e : Draft) (st : List Frame) → l ≤ 6 → NotMinus st → Stacked text st from → Nots from rest e → Settled text rest l (reduce l e st)
nots_settled text rest l from e [] low free before reads = level_settled text rest l 6 from e [] low tt before (nots reads)
nots_settled text rest l from e (Waiting (Left a op) ∷ st) low free before reads = level_settled text rest l 6 from e (Waiting (Left a op) ∷ st) low (binds op).1 before (nots reads)
nots_settled text rest l from e (Waiting Bang ∷ st) low free before reads =
    let more = nots_settled text rest l before.0 (draft.Not e) st low before.2.1 before.1 (subst (λ ts. Nots ts rest (draft.Not e)) (sym before.2.0) (not_of reads)) in
    subst (λ b. Settled text rest l (one_reduced b l e Bang st)) (sym (le_true l 6 low)) more
nots_settled text rest l from e (Waiting Minus ∷ st) low free before reads = absurd free
nots_settled text rest l from e (Waiting (Otherwise c a) ∷ st) low free before reads = level_settled text rest l 6 from e (Waiting (Otherwise c a) ∷ st) low tt before (nots reads)
nots_settled text rest l from e (Chosen c ∷ st) low free before reads = level_settled text rest l 6 from e (Chosen c ∷ st) low (omega arith) before (nots reads)
nots_settled text rest l from e (One k ∷ st) low free before reads = level_settled text rest l 6 from e (One k ∷ st) low tt before (nots reads)
nots_settled text rest l from e (Several k es ∷ st) low free before reads = level_settled text rest l 6 from e (Several k es ∷ st) low tt before (nots reads)
nots_settled text rest l from e (Key ps ∷ st) low free before reads = level_settled text rest l 6 from e (Key ps ∷ st) low tt before (nots reads)
nots_settled text rest l from e (Value ps k ∷ st) low free before reads = level_settled text rest l 6 from e (Value ps k ∷ st) low tt before (nots reads)

negs_settled : (text rest : List Token) (l : ℕ) (from : List Token) (e : Draft) (st : List Frame) → l ≤ 6 → NotBang st → Stacked text st from → Negs from rest e → Settled text rest l (reduce l e st)
negs_settled text rest l from e [] low free before reads = level_settled text rest l 6 from e [] low tt before (negs reads)
negs_settled text rest l from e (Waiting (Left a op) ∷ st) low free before reads = level_settled text rest l 6 from e (Waiting (Left a op) ∷ st) low (binds op).1 before (negs reads)
negs_settled text rest l from e (Waiting Bang ∷ st) low free before reads = absurd free
negs_settled text rest l from e (Waiting Minus ∷ st) low free before reads =
    let more = negs_settled text rest l before.0 (draft.Neg e) st low before.2.1 before.1 (subst (λ ts. Negs ts rest (draft.Neg e)) (sym before.2.0) (neg_of reads)) in
    subst (λ b. Settled text rest l (one_reduced b l e Minus st)) (sym (le_true l 6 low)) more
negs_settled text rest l from e (Waiting (Otherwise c a) ∷ st) low free before reads = level_settled text rest l 6 from e (Waiting (Otherwise c a) ∷ st) low tt before (negs reads)
negs_settled text rest l from e (Chosen c ∷ st) low free before reads = level_settled text rest l 6 from e (Chosen c ∷ st) low (omega arith) before (negs reads)
negs_settled text rest l from e (One k ∷ st) low free before reads = level_settled text rest l 6 from e (One k ∷ st) low tt before (negs reads)
negs_settled text rest l from e (Several k es ∷ st) low free before reads = level_settled text rest l 6 from e (Several k es ∷ st) low tt before (negs reads)
negs_settled text rest l from e (Key ps ∷ st) low free before reads = level_settled text rest l 6 from e (Key ps ∷ st) low tt before (negs reads)
negs_settled text rest l from e (Value ps k ∷ st) low free before reads = level_settled text rest l 6 from e (Value ps k ∷ st) low tt before (negs reads)

proper_settled : (text rest : List Token) (l : ℕ) (from : List Token) (e : Draft) (st : List Frame) → l ≤ 6 → Stacked text st from → Proper from rest e → Settled text rest l (reduce l e st)
proper_settled text rest l from e (Waiting Minus ∷ st) low before reads = negs_settled text rest l from e (Waiting Minus ∷ st) low tt before (unsigned reads)
proper_settled text rest l from e [] low before reads = nots_settled text rest l from e [] low tt before (unmarked (proper reads))
proper_settled text rest l from e (Waiting (Left a op) ∷ st) low before reads = nots_settled text rest l from e (Waiting (Left a op) ∷ st) low tt before (unmarked (proper reads))
proper_settled text rest l from e (Waiting Bang ∷ st) low before reads = nots_settled text rest l from e (Waiting Bang ∷ st) low tt before (unmarked (proper reads))
proper_settled text rest l from e (Waiting (Otherwise c a) ∷ st) low before reads = nots_settled text rest l from e (Waiting (Otherwise c a) ∷ st) low tt before (unmarked (proper reads))
proper_settled text rest l from e (Chosen c ∷ st) low before reads = nots_settled text rest l from e (Chosen c ∷ st) low tt before (unmarked (proper reads))
proper_settled text rest l from e (One k ∷ st) low before reads = nots_settled text rest l from e (One k ∷ st) low tt before (unmarked (proper reads))
proper_settled text rest l from e (Several k es ∷ st) low before reads = nots_settled text rest l from e (Several k es ∷ st) low tt before (unmarked (proper reads))
proper_settled text rest l from e (Key ps ∷ st) low before reads = nots_settled text rest l from e (Key ps ∷ st) low tt before (unmarked (proper reads))
proper_settled text rest l from e (Value ps k ∷ st) low before reads = nots_settled text rest l from e (Value ps k ∷ st) low tt before (unmarked (proper reads))

alone : (n : ℕ) (from rest : List Token) → from ≡ Token.Integer n ∷ rest → Nots from rest (Draft.Int (pos n))
alone n from rest is = subst (λ ts. Nots ts rest (Draft.Int (pos n))) (sym is) (unmarked integer_alone)

integer_settled : (text rest : List Token) (l : ℕ) (from : List Token) (n : ℕ) (st : List Frame) → l ≤ 6 → Stacked text st from → from ≡ Token.Integer n ∷ rest → Settled text rest l (settle l (Last.Integer n) st)
integer_settled text rest l from n (Waiting Minus ∷ st) low before is =
    negs_settled text rest l before.0 (Draft.Int (neg_ℤ (pos n))) st low before.2.1 before.1
    (subst (λ ts. Negs ts rest (Draft.Int (neg_ℤ (pos n)))) (sym (before.2.0 ∙ ap (λ ts. Token.Minus ∷ ts) is)) signed)
integer_settled text rest l from n [] low before is = nots_settled text rest l from (Draft.Int (pos n)) [] low tt before (alone n from rest is)
integer_settled text rest l from n (Waiting (Left a op) ∷ st) low before is = nots_settled text rest l from (Draft.Int (pos n)) (Waiting (Left a op) ∷ st) low tt before (alone n from rest is)
integer_settled text rest l from n (Waiting Bang ∷ st) low before is = nots_settled text rest l from (Draft.Int (pos n)) (Waiting Bang ∷ st) low tt before (alone n from rest is)
integer_settled text rest l from n (Waiting (Otherwise c a) ∷ st) low before is = nots_settled text rest l from (Draft.Int (pos n)) (Waiting (Otherwise c a) ∷ st) low tt before (alone n from rest is)
integer_settled text rest l from n (Chosen c ∷ st) low before is = nots_settled text rest l from (Draft.Int (pos n)) (Chosen c ∷ st) low tt before (alone n from rest is)
integer_settled text rest l from n (One k ∷ st) low before is = nots_settled text rest l from (Draft.Int (pos n)) (One k ∷ st) low tt before (alone n from rest is)
integer_settled text rest l from n (Several k es ∷ st) low before is = nots_settled text rest l from (Draft.Int (pos n)) (Several k es ∷ st) low tt before (alone n from rest is)
integer_settled text rest l from n (Key ps ∷ st) low before is = nots_settled text rest l from (Draft.Int (pos n)) (Key ps ∷ st) low tt before (alone n from rest is)
integer_settled text rest l from n (Value ps k ∷ st) low before is = nots_settled text rest l from (Draft.Int (pos n)) (Value ps k ∷ st) low tt before (alone n from rest is)

last_member : (last : Last) (from rest : List Token) → ReadsLast last from rest → Member from rest (tree_of last)
last_member (Last.Integer n) from rest is = subst (λ ts. Member ts rest (Draft.Int (pos n))) (sym is) integer_alone
last_member (Last.Name n) from rest is = subst (λ ts. Member ts rest (Draft.Name n)) (sym is) (proper Proper.name)
last_member (Last.Field e f) from rest is = proper (Proper.select is.1 is.2)
last_member (Last.Whole e) from rest is = proper is

last_settled : (text rest : List Token) (l : ℕ) (from : List Token) (last : Last) (st : List Frame) → l ≤ 6 → Stacked text st from → ReadsLast last from rest → Settled text rest l (settle l last st)
last_settled text rest l from (Last.Integer n) st low before is = integer_settled text rest l from n st low before is
last_settled text rest l from (Last.Name n) st low before is = proper_settled text rest l from (Draft.Name n) st low before (subst (λ ts. Proper ts rest (Draft.Name n)) (sym is) Proper.name)
last_settled text rest l from (Last.Field e f) st low before is = proper_settled text rest l from (draft.Select e f) st low before (Proper.select is.1 is.2)
last_settled text rest l from (Last.Whole e) st low before is = proper_settled text rest l from e st low before is

-- ---- the lists behind brackets

front_more : (es : List Draft) (e : Draft) (from m mid : List Token) → Front es from m → Spelled 0 m (Token.Comma ∷ mid) e → Front (es ++ e ∷ []) from mid
front_more [] e from m mid front d = (mid, subst (λ ts. Spelled 0 ts (Token.Comma ∷ mid) e) (sym front) d, refl)
front_more (x ∷ es) e from m mid front d = (front.0, front.1, front_more es e front.0 m mid front.2 d)

front_last : (es : List Draft) (e : Draft) (from m rest : List Token) → Front es from m → Spelled 0 m rest e → Some_of from rest (es ++ e ∷ [])
front_last [] e from m rest front d = last_one (subst (λ ts. Spelled 0 ts rest e) (sym front) d)
front_last (x ∷ es) e from m rest front d = one_more front.1 (front_last es e front.0 m rest front.2 d)

front_comma : (e : Draft) (es : List Draft) (from mid : List Token) → Front (e ∷ es) from mid → Some_of from (Token.Comma ∷ mid) (e ∷ es)
front_comma e [] from mid front = last_one (subst (λ ts. Spelled 0 from (Token.Comma ∷ ts) e) front.2 front.1)
front_comma e (x ∷ es) from mid front = one_more front.1 (front_comma x es front.0 mid front.2)

front_items : (es : List Draft) (from mid : List Token) → Front es from mid → Items from mid es
front_items [] from mid front = plain (subst (λ ts. Arguments from ts []) front no_arguments)
front_items (e ∷ es) from mid front = comma_behind (front_comma e es from mid front)

pairs_more : (ps : List DraftPair) (k v : Draft) (from m n mid : List Token) → PairFront ps from m → Spelled 0 m (Token.Colon ∷ n) k → Spelled 0 n (Token.Comma ∷ mid) v → PairFront (ps ++ pair_of k v ∷ []) from mid
pairs_more [] k v from m n mid front dk dv = (n, mid, subst (λ ts. Spelled 0 ts (Token.Colon ∷ n) k) (sym front) dk, dv, refl)
pairs_more (x ∷ ps) k v from m n mid front dk dv = (front.0, front.1, front.2, front.3, pairs_more ps k v front.1 m n mid front.4 dk dv)

pairs_last : (ps : List DraftPair) (k v : Draft) (from m n rest : List Token) → PairFront ps from m → Spelled 0 m (Token.Colon ∷ n) k → Spelled 0 n rest v → Pairs_of from rest (ps ++ pair_of k v ∷ [])
pairs_last [] k v from m n rest front dk dv = last_pair (subst (λ ts. Spelled 0 ts (Token.Colon ∷ n) k) (sym front) dk) dv
pairs_last (x ∷ ps) k v from m n rest front dk dv = pair_more front.2 front.3 (pairs_last ps k v front.1 m n rest front.4 dk dv)

pairs_comma : (p : DraftPair) (ps : List DraftPair) (from mid : List Token) → PairFront (p ∷ ps) from mid → Pairs_of from (Token.Comma ∷ mid) (p ∷ ps)
pairs_comma p [] from mid front = last_pair front.2 (subst (λ ts. Spelled 0 front.0 (Token.Comma ∷ ts) p.value) front.4 front.3)
pairs_comma p (x ∷ ps) from mid front = pair_more front.2 front.3 (pairs_comma x ps front.1 mid front.4)

pairs_entries : (ps : List DraftPair) (from mid : List Token) → PairFront ps from mid → Entries from mid ps
pairs_entries [] from mid front = subst (λ ts. Entries from ts []) front no_entries
pairs_entries (p ∷ ps) from mid front = entries_comma (pairs_comma p ps from mid front)

-- a bracket that is closed is a member
many_proper : (k : Many) (from inside rest : List Token) (es : List Draft) → Opens k from inside → Arguments inside (Token.Close (all_closer k) ∷ rest) es → Proper from rest (all k es)
many_proper Many.List from inside rest es opens d = subst (λ ts. Proper ts rest (draft.List es)) (sym opens) (Proper.list (plain d))
many_proper (Many.Call n) from inside rest es opens d = subst (λ ts. Proper ts rest (draft.Call n es)) (sym opens) (Proper.call d)
many_proper (Many.Method e f) from inside rest es opens d = Proper.method opens.1 opens.2 d

table_proper : (from inside rest : List Token) (ps : List DraftPair) → from ≡ Token.Open Curly ∷ inside → Entries inside (Token.Close Curly ∷ rest) ps → Proper from rest (draft.Map ps)
table_proper from inside rest ps opens d = subst (λ ts. Proper ts rest (draft.Map ps)) (sym opens) (Proper.table d)

-- ---- one token

bang_reads : (text rest : List Token) (st : List Frame) → Stacked text st (Token.Bang ∷ rest) → IfSome (at_bang st) (λ s. Reads text s rest)
bang_reads text rest [] before = (Token.Bang ∷ rest, before, (refl, tt))
bang_reads text rest (Waiting (Left a op) ∷ st) before = (Token.Bang ∷ rest, before, (refl, tt))
bang_reads text rest (Waiting Bang ∷ st) before = (Token.Bang ∷ rest, before, (refl, tt))
bang_reads text rest (Waiting Minus ∷ st) before = tt
bang_reads text rest (Waiting (Otherwise c a) ∷ st) before = (Token.Bang ∷ rest, before, (refl, tt))
bang_reads text rest (Chosen c ∷ st) before = (Token.Bang ∷ rest, before, (refl, tt))
bang_reads text rest (One k ∷ st) before = (Token.Bang ∷ rest, before, (refl, tt))
bang_reads text rest (Several k es ∷ st) before = (Token.Bang ∷ rest, before, (refl, tt))
bang_reads text rest (Key ps ∷ st) before = (Token.Bang ∷ rest, before, (refl, tt))
bang_reads text rest (Value ps k ∷ st) before = (Token.Bang ∷ rest, before, (refl, tt))

minus_reads : (text rest : List Token) (st : List Frame) → Stacked text st (Token.Minus ∷ rest) → IfSome (at_minus st) (λ s. Reads text s rest)
minus_reads text rest [] before = (Token.Minus ∷ rest, before, (refl, tt))
minus_reads text rest (Waiting (Left a op) ∷ st) before = (Token.Minus ∷ rest, before, (refl, tt))
minus_reads text rest (Waiting Bang ∷ st) before = tt
minus_reads text rest (Waiting Minus ∷ st) before = (Token.Minus ∷ rest, before, (refl, tt))
minus_reads text rest (Waiting (Otherwise c a) ∷ st) before = (Token.Minus ∷ rest, before, (refl, tt))
minus_reads text rest (Chosen c ∷ st) before = (Token.Minus ∷ rest, before, (refl, tt))
minus_reads text rest (One k ∷ st) before = (Token.Minus ∷ rest, before, (refl, tt))
minus_reads text rest (Several k es ∷ st) before = (Token.Minus ∷ rest, before, (refl, tt))
minus_reads text rest (Key ps ∷ st) before = (Token.Minus ∷ rest, before, (refl, tt))
minus_reads text rest (Value ps k ∷ st) before = (Token.Minus ∷ rest, before, (refl, tt))

empty_reads : (text rest : List Token) (b : Bracket) (st : List Frame) → Stacked text st (Token.Close b ∷ rest) → IfSome (closed_empty b st) (λ s. Reads text s rest)
empty_reads text rest b [] before = tt
empty_reads text rest b (Waiting p ∷ st) before = tt
empty_reads text rest b (Chosen c ∷ st) before = tt
empty_reads text rest b (One k ∷ st) before = tt
empty_reads text rest Square (Several Many.List es ∷ st) before =
    (before.0, before.1, subst (λ ts. Proper ts rest (draft.List es)) (sym before.2.1) (Proper.list (front_items es before.2.0 (Token.Close Square ∷ rest) before.2.2)))
empty_reads text rest Round (Several Many.List es ∷ st) before = tt
empty_reads text rest Curly (Several Many.List es ∷ st) before = tt
empty_reads text rest Round (Several (Many.Call n) [] ∷ st) before =
    (before.0, before.1, many_proper (Many.Call n) before.0 before.2.0 rest [] before.2.1 (subst (λ ts. Arguments before.2.0 ts []) before.2.2 no_arguments))
empty_reads text rest Square (Several (Many.Call n) [] ∷ st) before = tt
empty_reads text rest Curly (Several (Many.Call n) [] ∷ st) before = tt
empty_reads text rest b (Several (Many.Call n) (e ∷ es) ∷ st) before = tt
empty_reads text rest Round (Several (Many.Method e f) [] ∷ st) before =
    (before.0, before.1, many_proper (Many.Method e f) before.0 before.2.0 rest [] before.2.1 (subst (λ ts. Arguments before.2.0 ts []) before.2.2 no_arguments))
empty_reads text rest Square (Several (Many.Method e f) [] ∷ st) before = tt
empty_reads text rest Curly (Several (Many.Method e f) [] ∷ st) before = tt
empty_reads text rest b (Several (Many.Method e f) (x ∷ es) ∷ st) before = tt
empty_reads text rest Curly (Key ps ∷ st) before =
    (before.0, before.1, table_proper before.0 before.2.0 rest ps before.2.1 (pairs_entries ps before.2.0 (Token.Close Curly ∷ rest) before.2.2))
empty_reads text rest Round (Key ps ∷ st) before = tt
empty_reads text rest Square (Key ps ∷ st) before = tt
empty_reads text rest b (Value ps k ∷ st) before = tt

opened_reads : (text rest : List Token) (b : Bracket) (st : List Frame) → Stacked text st (Token.Open b ∷ rest) → Reads text (opened b st) rest
opened_reads text rest Round st before = (Token.Open Round ∷ rest, before, refl)
opened_reads text rest Square st before = (Token.Open Square ∷ rest, before, (rest, refl, refl))
opened_reads text rest Curly st before = (Token.Open Curly ∷ rest, before, (rest, refl, refl))

operand_reads : (text rest : List Token) (t : Token) (st : List Frame) → Stacked text st (t ∷ rest) → IfSome (at_operand t st) (λ s. Reads text s rest)
operand_reads text rest (Token.Name n) st before = (Token.Name n ∷ rest, before, refl)
operand_reads text rest (Token.Reserved n) st before = tt
operand_reads text rest (Token.Integer n) st before = (Token.Integer n ∷ rest, before, refl)
operand_reads text rest (Token.Literal l) st before = (Token.Literal l ∷ rest, before, Proper.literal)
operand_reads text rest (Token.Sign op) st before = tt
operand_reads text rest Token.Minus st before = minus_reads text rest st before
operand_reads text rest Token.Bang st before = bang_reads text rest st before
operand_reads text rest Token.Question st before = tt
operand_reads text rest Token.Colon st before = tt
operand_reads text rest Token.Dot st before = tt
operand_reads text rest Token.Comma st before = tt
operand_reads text rest (Token.Open b) st before = opened_reads text rest b st before
operand_reads text rest (Token.Close b) st before = empty_reads text rest b st before

dotted_reads : (text rest from : List Token) (t : Token) (o : Option Name) (e : Draft) (st : List Frame) → field_of t ≡ o → Stacked text st from → Member from (Token.Dot ∷ t ∷ rest) e → IfSome (at_dotted o e st) (λ s. Reads text s rest)
dotted_reads text rest from t None e st is before d = tt
dotted_reads text rest from t (Some f) e st is before d = (from, before, (t, is, d))

operator_reads : (text rest : List Token) (t : Token) (op : BinaryOp) (r : Draft × List Frame) → op_of t ≡ Some op → Settled text (t ∷ rest) (strength op) r → Stacked text (Waiting (Left r.0 op) ∷ r.1) rest
operator_reads text rest t op r is so_far = (so_far.from, so_far.before, (t, is, up so_far.low so_far.reads, so_far.stays (binds op).0))

question_reads : (text rest : List Token) (e : Draft) (st : List Frame) → Settled text (Token.Question ∷ rest) 1 (e, st) → IfSome (at_question e st) (λ s. Reads text s rest)
question_reads text rest e [] so_far = (so_far.from, so_far.before, (up so_far.low so_far.reads, tt))
question_reads text rest e (Waiting (Left a op) ∷ st) so_far = let none : strength op < 1 = so_far.stays (omega arith) in (so_far.from, so_far.before, (up so_far.low so_far.reads, absurd (omega (arith, (binds op).0))))
question_reads text rest e (Waiting Bang ∷ st) so_far = absurd so_far.fits
question_reads text rest e (Waiting Minus ∷ st) so_far = absurd so_far.fits
question_reads text rest e (Waiting (Otherwise c a) ∷ st) so_far = (so_far.from, so_far.before, (up so_far.low so_far.reads, tt))
question_reads text rest e (Chosen c ∷ st) so_far = tt
question_reads text rest e (One k ∷ st) so_far = (so_far.from, so_far.before, (up so_far.low so_far.reads, tt))
question_reads text rest e (Several k es ∷ st) so_far = (so_far.from, so_far.before, (up so_far.low so_far.reads, tt))
question_reads text rest e (Key ps ∷ st) so_far = (so_far.from, so_far.before, (up so_far.low so_far.reads, tt))
question_reads text rest e (Value ps k ∷ st) so_far = (so_far.from, so_far.before, (up so_far.low so_far.reads, tt))

colon_reads : (text rest : List Token) (e : Draft) (st : List Frame) → Settled text (Token.Colon ∷ rest) 0 (e, st) → IfSome (at_colon e st) (λ s. Reads text s rest)
colon_reads text rest e [] so_far = tt
colon_reads text rest e (Waiting p ∷ st) so_far = tt
colon_reads text rest e (Chosen c ∷ st) so_far =
    let before = so_far.before in
    (before.0, before.1, (so_far.from, before.2.0, up so_far.fits so_far.reads, before.2.1))
colon_reads text rest e (One k ∷ st) so_far = tt
colon_reads text rest e (Several k es ∷ st) so_far = tt
colon_reads text rest e (Key ps ∷ st) so_far =
    let before = so_far.before in
    (before.0, before.1, (before.2.0, so_far.from, before.2.1, before.2.2, up so_far.low so_far.reads))
colon_reads text rest e (Value ps k ∷ st) so_far = tt

comma_reads : (text rest : List Token) (e : Draft) (st : List Frame) → Settled text (Token.Comma ∷ rest) 0 (e, st) → IfSome (at_comma e st) (λ s. Reads text s rest)
comma_reads text rest e [] so_far = tt
comma_reads text rest e (Waiting p ∷ st) so_far = tt
comma_reads text rest e (Chosen c ∷ st) so_far = tt
comma_reads text rest e (One k ∷ st) so_far = tt
comma_reads text rest e (Several k es ∷ st) so_far =
    let before = so_far.before in
    (before.0, before.1, (before.2.0, before.2.1, front_more es e before.2.0 so_far.from rest before.2.2 (up so_far.low so_far.reads)))
comma_reads text rest e (Key ps ∷ st) so_far = tt
comma_reads text rest e (Value ps k ∷ st) so_far =
    let before = so_far.before in
    (before.0, before.1, (before.2.0, before.2.2, pairs_more ps k e before.2.0 before.2.1 so_far.from rest before.2.3 before.2.4 (up so_far.low so_far.reads)))

all_reads : (text rest : List Token) (b : Bracket) (k : Many) (e : Draft) (es : List Draft) (st : List Frame) → Settled text (Token.Close b ∷ rest) 0 (e, Several k es ∷ st) → b ≡ all_closer k → Reads text (after (Last.Whole (all k (es ++ e ∷ []))) st) rest
all_reads text rest b k e es st so_far is =
    let before = so_far.before in
    let d = front_last es e before.2.0 so_far.from (Token.Close b ∷ rest) before.2.2 (up so_far.low so_far.reads) in
    (before.0, before.1, many_proper k before.0 before.2.0 rest (es ++ e ∷ []) before.2.1 (arguments (subst (λ c. Some_of before.2.0 (Token.Close c ∷ rest) (es ++ e ∷ [])) is d)))

closer_reads : (text rest : List Token) (b : Bracket) (e : Draft) (st : List Frame) → Settled text (Token.Close b ∷ rest) 0 (e, st) → IfSome (closed_by b e st) (λ s. Reads text s rest)
closer_reads text rest b e [] so_far = tt
closer_reads text rest b e (Waiting p ∷ st) so_far = tt
closer_reads text rest b e (Chosen c ∷ st) so_far = tt
closer_reads text rest Round e (One Group ∷ st) so_far =
    let before = so_far.before in
    (before.0, before.1, subst (λ ts. Proper ts rest e) (sym before.2) (Proper.group (up so_far.low so_far.reads)))
closer_reads text rest Square e (One Group ∷ st) so_far = tt
closer_reads text rest Curly e (One Group ∷ st) so_far = tt
closer_reads text rest Square e (One (At a) ∷ st) so_far =
    let before = so_far.before in
    (before.0, before.1, Proper.index before.2 (up so_far.low so_far.reads))
closer_reads text rest Round e (One (At a) ∷ st) so_far = tt
closer_reads text rest Curly e (One (At a) ∷ st) so_far = tt
closer_reads text rest Square e (Several Many.List es ∷ st) so_far = all_reads text rest Square Many.List e es st so_far refl
closer_reads text rest Round e (Several Many.List es ∷ st) so_far = tt
closer_reads text rest Curly e (Several Many.List es ∷ st) so_far = tt
closer_reads text rest Round e (Several (Many.Call n) es ∷ st) so_far = all_reads text rest Round (Many.Call n) e es st so_far refl
closer_reads text rest Square e (Several (Many.Call n) es ∷ st) so_far = tt
closer_reads text rest Curly e (Several (Many.Call n) es ∷ st) so_far = tt
closer_reads text rest Round e (Several (Many.Method a f) es ∷ st) so_far = all_reads text rest Round (Many.Method a f) e es st so_far refl
closer_reads text rest Square e (Several (Many.Method a f) es ∷ st) so_far = tt
closer_reads text rest Curly e (Several (Many.Method a f) es ∷ st) so_far = tt
closer_reads text rest b e (Key ps ∷ st) so_far = tt
closer_reads text rest Curly e (Value ps k ∷ st) so_far =
    let before = so_far.before in
    (before.0, before.1, table_proper before.0 before.2.0 rest (ps ++ pair_of k e ∷ []) before.2.2 (entries (pairs_last ps k e before.2.0 before.2.1 so_far.from (Token.Close Curly ∷ rest) before.2.3 before.2.4 (up so_far.low so_far.reads))))
closer_reads text rest Round e (Value ps k ∷ st) so_far = tt
closer_reads text rest Square e (Value ps k ∷ st) so_far = tt

called_reads : (text rest from : List Token) (last : Last) (st : List Frame) → Stacked text st from → ReadsLast last from (Token.Open Round ∷ rest) → IfSome (called last st) (λ s. Reads text s rest)
called_reads text rest from (Last.Integer n) st before is = tt
called_reads text rest from (Last.Name n) st before is = (from, before, (rest, is, refl))
called_reads text rest from (Last.Field e f) st before is = (from, before, (rest, is, refl))
called_reads text rest from (Last.Whole e) st before is = tt

opener_reads : (text rest from : List Token) (b : Bracket) (last : Last) (st : List Frame) → Stacked text st from → ReadsLast last from (Token.Open b ∷ rest) → IfSome (opened_after b last st) (λ s. Reads text s rest)
opener_reads text rest from Round last st before is = called_reads text rest from last st before is
opener_reads text rest from Square last st before is = (from, before, last_member last from (Token.Open Square ∷ rest) is)
opener_reads text rest from Curly last st before is = tt

after_reads : (text rest from : List Token) (t : Token) (last : Last) (st : List Frame) → Stacked text st from → ReadsLast last from (t ∷ rest) → IfSome (at_after t last st) (λ s. Reads text s rest)
after_reads text rest from (Token.Name n) last st before is = tt
after_reads text rest from (Token.Reserved n) last st before is = tt
after_reads text rest from (Token.Integer n) last st before is = tt
after_reads text rest from (Token.Literal l) last st before is = tt
after_reads text rest from (Token.Sign op) last st before is = operator_reads text rest (Token.Sign op) op (settle (strength op) last st) refl (last_settled text (Token.Sign op ∷ rest) (strength op) from last st (omega (arith, (binds op).1)) before is)
after_reads text rest from Token.Minus last st before is = operator_reads text rest Token.Minus Sub (settle 4 last st) refl (last_settled text (Token.Minus ∷ rest) 4 from last st (omega arith) before is)
after_reads text rest from Token.Bang last st before is = tt
after_reads text rest from Token.Question last st before is = let r = settle 1 last st in question_reads text rest r.0 r.1 (last_settled text (Token.Question ∷ rest) 1 from last st (omega arith) before is)
after_reads text rest from Token.Colon last st before is = let r = settle 0 last st in colon_reads text rest r.0 r.1 (last_settled text (Token.Colon ∷ rest) 0 from last st (omega arith) before is)
after_reads text rest from Token.Dot last st before is = (from, before, last_member last from (Token.Dot ∷ rest) is)
after_reads text rest from Token.Comma last st before is = let r = settle 0 last st in comma_reads text rest r.0 r.1 (last_settled text (Token.Comma ∷ rest) 0 from last st (omega arith) before is)
after_reads text rest from (Token.Open b) last st before is = opener_reads text rest from b last st before is
after_reads text rest from (Token.Close b) last st before is = let r = settle 0 last st in closer_reads text rest b r.0 r.1 (last_settled text (Token.Close b ∷ rest) 0 from last st (omega arith) before is)

pub step_reads : (text rest : List Token) (t : Token) (s : State) → Reads text s (t ∷ rest) → IfSome (step s t) (λ next. Reads text next rest)
step_reads text rest t (operand st) reads = operand_reads text rest t st reads
step_reads text rest t (dotted e st) reads = dotted_reads text rest reads.0 t (field_of t) e st refl reads.1 reads.2
step_reads text rest t (after last st) reads = after_reads text rest reads.0 t last st reads.1 reads.2

-- ---- a Last.Whole run

then_reads : (text rest : List Token) (o : Option State) → IfSome o (λ next. Reads text next rest) → ((next : State) → Reads text next rest → IfSome (run next rest) (λ s. Reads text s [])) → IfSome (go_on o (λ n. run n rest)) (λ s. Reads text s [])
then_reads text rest None reads more = tt
then_reads text rest (Some next) reads more = more next reads

pub run_reads : (text ts : List Token) (s : State) → Reads text s ts → IfSome (run s ts) (λ last. Reads text last [])
run_reads text [] s reads = reads
run_reads text (t ∷ ts) s reads = then_reads text ts (step s t) (step_reads text ts t s reads) (λ next now. run_reads text ts next now)

bottom_reads : (text : List Token) (e : Draft) (st : List Frame) → Settled text [] 0 (e, st) → IfSome (bottom e st) (λ x. Spelled 0 text [] x)
bottom_reads text e [] so_far = subst (λ ts. Spelled 0 ts [] e) (sym so_far.before) (up so_far.low so_far.reads)
bottom_reads text e (f ∷ st) so_far = tt

ended_reads : (text : List Token) (s : State) → Reads text s [] → IfSome (ended s) (λ x. Spelled 0 text [] x)
ended_reads text (operand st) reads = tt
ended_reads text (dotted e st) reads = tt
ended_reads text (after last st) reads = let r = settle 0 last st in bottom_reads text r.0 r.1 (last_settled text [] 0 reads.0 last st (omega arith) reads.1 reads.2)

at_end : (text : List Token) (o : Option State) (e : Draft) → IfSome o (λ s. Reads text s []) → go_on o ended ≡ Some e → Spelled 0 text [] e
at_end text None e reads is = cc
at_end text (Some s) e reads is = subst (λ o. IfSome o (λ x. Spelled 0 text [] x)) is (ended_reads text s reads)

-- what is accepted is spelled
pub spelled : (text : List Token) (e : Draft) → go_on (run start text) ended ≡ Some e → Spelled 0 text [] e
spelled text e is = at_end text (run start text) e (run_reads text text start refl) is
