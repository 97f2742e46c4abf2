-- The machine takes what the grammar spells.
use Rattle.std.proofs.Common.{◌≡◌, ℕ, ◌+◌, cond, List, [], ◌∷◌, ◌++◌, Some, refl, ap, ◌∙◌, arith, append_assoc}
use Rattle.cel_values.specs.declared.expr.BinaryOp.{BinaryOp}
use Rattle.cel_tokens.specs.declared.token.Bracket.{Bracket}
use Rattle.cel_tokens.specs.declared.token.Bracket.TheVariants.{Round, Square, Curly}
use Rattle.cel_tokens.specs.declared.token.Name.{Name}
use Rattle.cel_tokens.specs.declared.token.Token.{Token}
use Rattle.cel_grammar.specs.declared.draft.Draft.{Draft}
use Rattle.cel_grammar.specs.declared.draft.Draft.TheViews as draft
use Rattle.cel_grammar.specs.declared.draft.DraftPair.{DraftPair}
use Rattle.cel_grammar.specs.declared.frames.Pending.TheVariants.{Left, Bang, Minus, Otherwise}
use Rattle.cel_grammar.specs.declared.frames.Single.TheVariants.{Group, At}
use Rattle.cel_grammar.specs.declared.frames.Many.{Many}
use Rattle.cel_grammar.specs.declared.frames.Frame.{Frame}
use Rattle.cel_grammar.specs.declared.frames.Frame.TheVariants.{Waiting, Chosen, One, Several, Key, Value}
use Rattle.cel_grammar.specs.declared.frames.Last.{Last}
use Rattle.cel_grammar.specs.Grammar.{strength, op_of, field_of, pair_of, Spelled, up, choice, binary, nots, negs, Nots, unmarked, not_of, Negs, unsigned, signed, neg_of, Member, integer_alone, proper, Proper, Some_of, last_one, one_more, Arguments, no_arguments, arguments, Items, plain, comma_behind, Pairs_of, last_pair, pair_more, Entries, no_entries, entries, entries_comma}
use Rattle.cel_grammar.specs.Machine.{State, operand, after, all, all_closer, tree_of, reduce, resolved, settle, closed_by, closed_empty, at_colon, at_comma, at_question, at_bang, at_minus, at_operator, at_dotted, step, go_on, run, bottom, ended, start}
use Rattle.cel_grammar.proofs.Stack.{Fits, NotMinus, NotBang, Fits-le, not_minus, not_bang, kept, settled, run_step, binds, le_true}

-- an operand of a level was read
record Reaches (l : ℕ) (st : List Frame) (from rest : List Token) (e : Draft) : Type 0 where
  last : Last
  stack : List Frame
  runs : run (operand st) from ≡ run (after last stack) rest
  settles : settle l last stack ≡ reduce l e st

-- a member was read
record Takes (st : List Frame) (from rest : List Token) (e : Draft) : Type 0 where
  last : Last
  runs : run (operand st) from ≡ run (after last st) rest
  is : tree_of last ≡ e

abbrev IsBare : Last → Type 0
IsBare (Last.Integer n) = ⊥
IsBare _ = Unit {0}

record TakesBare (st : List Frame) (from rest : List Token) (e : Draft) : Type 0 where
  last : Last
  runs : run (operand st) from ≡ run (after last st) rest
  is : tree_of last ≡ e
  bare : IsBare last

-- expressions behind commas were read, and the last one is open
record Collects (k : Many) (acc : List Draft) (st : List Frame) (from rest : List Token) (es : List Draft) : Type 0 where
  last : Last
  stack : List Frame
  front : List Draft
  final : Draft
  runs : run (operand (Several k acc ∷ st)) from ≡ run (after last stack) rest
  settles : settle 0 last stack ≡ (final, Several k front ∷ st)
  is : front ++ (final ∷ []) ≡ acc ++ es

record Pairs_up (acc : List DraftPair) (st : List Frame) (from rest : List Token) (ps : List DraftPair) : Type 0 where
  last : Last
  stack : List Frame
  front : List DraftPair
  of : Draft
  final : Draft
  runs : run (operand (Key acc ∷ st)) from ≡ run (after last stack) rest
  settles : settle 0 last stack ≡ (final, Value front of ∷ st)
  is : front ++ (pair_of of final ∷ []) ≡ acc ++ ps

bare_resolved : (last : Last) (st : List Frame) → IsBare last → resolved last st ≡ (tree_of last, st)
bare_resolved (Last.Integer n) st b = absurd b
bare_resolved (Last.Name n) st b = refl
bare_resolved (Last.Field e f) st b = refl
bare_resolved (Last.Whole e) st b = refl

unsigned_resolved : (last : Last) (st : List Frame) → NotMinus st → resolved last st ≡ (tree_of last, st)
unsigned_resolved (Last.Integer n) [] b = refl
unsigned_resolved (Last.Integer n) (Waiting (Left a op) ∷ st) b = refl
unsigned_resolved (Last.Integer n) (Waiting Bang ∷ st) b = refl
unsigned_resolved (Last.Integer n) (Waiting Minus ∷ st) b = absurd b
unsigned_resolved (Last.Integer n) (Waiting (Otherwise c a) ∷ st) b = refl
unsigned_resolved (Last.Integer n) (Chosen c ∷ st) b = refl
unsigned_resolved (Last.Integer n) (One k ∷ st) b = refl
unsigned_resolved (Last.Integer n) (Several k es ∷ st) b = refl
unsigned_resolved (Last.Integer n) (Key ps ∷ st) b = refl
unsigned_resolved (Last.Integer n) (Value ps k ∷ st) b = refl
unsigned_resolved (Last.Name n) st b = refl
unsigned_resolved (Last.Field e f) st b = refl
unsigned_resolved (Last.Whole e) st b = refl

settle_at : (l : ℕ) (last : Last) (st : List Frame) (e : Draft) → resolved last st ≡ (tree_of last, st) → tree_of last ≡ e → settle l last st ≡ reduce l e st
settle_at l last st e h is = ap (λ (r : Draft × List Frame). reduce l r.0 r.1) h ∙ ap (λ x. reduce l x st) is

bang_goes : (st : List Frame) → NotMinus st → at_bang st ≡ Some (operand (Waiting Bang ∷ st))
bang_goes [] b = refl
bang_goes (Waiting (Left a op) ∷ st) b = refl
bang_goes (Waiting Bang ∷ st) b = refl
bang_goes (Waiting Minus ∷ st) b = absurd b
bang_goes (Waiting (Otherwise c a) ∷ st) b = refl
bang_goes (Chosen c ∷ st) b = refl
bang_goes (One k ∷ st) b = refl
bang_goes (Several k es ∷ st) b = refl
bang_goes (Key ps ∷ st) b = refl
bang_goes (Value ps k ∷ st) b = refl

minus_goes : (st : List Frame) → NotBang st → at_minus st ≡ Some (operand (Waiting Minus ∷ st))
minus_goes [] b = refl
minus_goes (Waiting (Left a op) ∷ st) b = refl
minus_goes (Waiting Bang ∷ st) b = absurd b
minus_goes (Waiting Minus ∷ st) b = refl
minus_goes (Waiting (Otherwise c a) ∷ st) b = refl
minus_goes (Chosen c ∷ st) b = refl
minus_goes (One k ∷ st) b = refl
minus_goes (Several k es ∷ st) b = refl
minus_goes (Key ps ∷ st) b = refl
minus_goes (Value ps k ∷ st) b = refl

question_goes : (c : Draft) (st : List Frame) → Fits 0 st → at_question c st ≡ Some (operand (Chosen c ∷ st))
question_goes c [] b = refl
question_goes c (Waiting p ∷ st) b = refl
question_goes c (Chosen d ∷ st) b = absurd (omega arith)
question_goes c (One k ∷ st) b = refl
question_goes c (Several k es ∷ st) b = refl
question_goes c (Key ps ∷ st) b = refl
question_goes c (Value ps k ∷ st) b = refl

operator_goes : (t : Token) (op : BinaryOp) (last : Last) (stack : List Frame) → op_of t ≡ Some op → step (after last stack) t ≡ at_operator op last stack
operator_goes (Token.Sign s) op last stack h = let e : s ≡ op = cc in ap (λ o. at_operator o last stack) e
operator_goes Token.Minus op last stack h = let e : BinaryOp.Sub ≡ op = cc in ap (λ o. at_operator o last stack) e
operator_goes (Token.Name n) op last stack h = cc
operator_goes (Token.Reserved n) op last stack h = cc
operator_goes (Token.Integer n) op last stack h = cc
operator_goes (Token.Literal l) op last stack h = cc
operator_goes Token.Bang op last stack h = cc
operator_goes Token.Question op last stack h = cc
operator_goes Token.Colon op last stack h = cc
operator_goes Token.Dot op last stack h = cc
operator_goes Token.Comma op last stack h = cc
operator_goes (Token.Open b) op last stack h = cc
operator_goes (Token.Close b) op last stack h = cc

closes_empty : (k : Many) (st : List Frame) → closed_empty (all_closer k) (Several k [] ∷ st) ≡ Some (after (Last.Whole (all k [])) st)
closes_empty Many.List st = refl
closes_empty (Many.Call n) st = refl
closes_empty (Many.Method e f) st = refl

closes_all : (k : Many) (front : List Draft) (final : Draft) (st : List Frame) → closed_by (all_closer k) final (Several k front ∷ st) ≡ Some (after (Last.Whole (all k (front ++ final ∷ []))) st)
closes_all Many.List front final st = refl
closes_all (Many.Call n) front final st = refl
closes_all (Many.Method e f) front final st = refl

-- ---- the steps that several forms share

after_operator : (t : Token) (op : BinaryOp) (a : Draft) (st : List Frame) (last : Last) (stack : List Frame) (mid : List Token) → op_of t ≡ Some op → Fits (strength op) st →
    settle (strength op) last stack ≡ reduce (strength op) a st → run (after last stack) (t ∷ mid) ≡ run (operand (Waiting (Left a op) ∷ st)) mid
after_operator t op a st last stack mid h fits is =
    let stays : settle (strength op) last stack ≡ (a, st) = is ∙ kept (strength op) a st (binds op).0 fits in
    run_step (after last stack) t (operand (Waiting (Left a op) ∷ st)) mid
    (operator_goes t op last stack h ∙ ap (λ (r : Draft × List Frame). Some (operand (Waiting (Left r.0 op) ∷ r.1))) stays)

after_question : (c : Draft) (st : List Frame) (last : Last) (stack : List Frame) (mid : List Token) → Fits 0 st → settle 1 last stack ≡ reduce 1 c st → run (after last stack) (Token.Question ∷ mid) ≡ run (operand (Chosen c ∷ st)) mid
after_question c st last stack mid fits is =
    let stays : settle 1 last stack ≡ (c, st) = is ∙ kept 1 c st (omega arith) (Fits-le 0 1 st (omega arith) fits) in
    run_step (after last stack) Token.Question (operand (Chosen c ∷ st)) mid
    (ap (λ (r : Draft × List Frame). at_question r.0 r.1) stays ∙ question_goes c st fits)

after_colon : (c a : Draft) (st : List Frame) (last : Last) (stack : List Frame) (mid : List Token) → settle 1 last stack ≡ reduce 1 a (Chosen c ∷ st) → run (after last stack) (Token.Colon ∷ mid) ≡ run (operand (Waiting (Otherwise c a) ∷ st)) mid
after_colon c a st last stack mid is =
    let stays : settle 0 last stack ≡ (a, Chosen c ∷ st) = settled 0 1 last stack (Chosen c ∷ st) a (omega arith) is in
    run_step (after last stack) Token.Colon (operand (Waiting (Otherwise c a) ∷ st)) mid (ap (λ (r : Draft × List Frame). at_colon r.0 r.1) stays)

after_key : (ps : List DraftPair) (k : Draft) (st : List Frame) (last : Last) (stack : List Frame) (mid : List Token) → settle 0 last stack ≡ (k, Key ps ∷ st) → run (after last stack) (Token.Colon ∷ mid) ≡ run (operand (Value ps k ∷ st)) mid
after_key ps k st last stack mid is =
    run_step (after last stack) Token.Colon (operand (Value ps k ∷ st)) mid (ap (λ (r : Draft × List Frame). at_colon r.0 r.1) is)

after_comma : (e : Draft) (f : Frame) (st : List Frame) (next : State) (last : Last) (stack : List Frame) (mid : List Token) → settle 0 last stack ≡ (e, f ∷ st) → at_comma e (f ∷ st) ≡ Some next → run (after last stack) (Token.Comma ∷ mid) ≡ run next mid
after_comma e f st next last stack mid is goes =
    run_step (after last stack) Token.Comma next mid (ap (λ (r : Draft × List Frame). at_comma r.0 r.1) is ∙ goes)

after_closer : (b : Bracket) (e : Draft) (f : Frame) (st : List Frame) (next : State) (last : Last) (stack : List Frame) (mid : List Token) → settle 0 last stack ≡ (e, f ∷ st) → closed_by b e (f ∷ st) ≡ Some next → run (after last stack) (Token.Close b ∷ mid) ≡ run next mid
after_closer b e f st next last stack mid is goes =
    run_step (after last stack) (Token.Close b) next mid (ap (λ (r : Draft × List Frame). closed_by b r.0 r.1) is ∙ goes)

field_goes : (t : Token) (f : Name) (last : Last) (st : List Frame) (e : Draft) (mid : List Token) → field_of t ≡ Some f → tree_of last ≡ e → run (after last st) (Token.Dot ∷ t ∷ mid) ≡ run (after (Last.Field e f) st) mid
field_goes t f last st e mid h is =
    ap (λ o. go_on (at_dotted o (tree_of last) st) (λ n. run n mid)) h ∙ ap (λ x. run (after (Last.Field x f) st) mid) is

-- ---- by cases on what is spelled

mutual
  by_spelled : {l : ℕ} {from rest : List Token} {e : Draft} → Spelled l from rest e → (st : List Frame) → Fits l st → Reaches l st from rest e
  by_spelled {e = e} (up {l = l} {m = m} h d) st fits =
      let r = by_spelled d st (Fits-le l m st h fits) in
      record { last = r.last; stack = r.stack; runs = r.runs; settles = settled l m r.last r.stack st e h r.settles }
  by_spelled (choice {m1 = m1} {m2 = m2} {rest = rest} {c = c} {a = a} {b = b} dc da db) st fits =
      let r1 = by_spelled dc st (Fits-le 0 1 st (omega arith) fits) in
      let r2 = by_spelled da (Chosen c ∷ st) (omega arith) in
      let r3 = by_spelled db (Waiting (Otherwise c a) ∷ st) tt in
      record {
        last = r3.last;
        stack = r3.stack;
        runs = r1.runs ∙ after_question c st r1.last r1.stack m1 fits r1.settles ∙ r2.runs ∙ after_colon c a st r2.last r2.stack m2 r2.settles ∙ r3.runs;
        settles = r3.settles;
      }
  by_spelled (binary {t = t} {op = op} {mid = mid} {a = a} {b = b} h da db) st fits =
      let r1 = by_spelled da st fits in
      let r2 = by_spelled db (Waiting (Left a op) ∷ st) (omega arith) in
      record {
        last = r2.last;
        stack = r2.stack;
        runs = r1.runs ∙ after_operator t op a st r1.last r1.stack mid h fits r1.settles ∙ r2.runs;
        settles = settled (strength op) (strength op + 1) r2.last r2.stack (Waiting (Left a op) ∷ st) b (omega arith) r2.settles ∙ ap (λ x. cond x (reduce (strength op) (draft.Binary op a b) st) (b, Waiting (Left a op) ∷ st)) (le_true (strength op) (strength op) (omega arith));
      }
  by_spelled (nots d) st fits = by_nots d st (not_minus 6 st fits)
  by_spelled (negs d) st fits = by_negs d st (not_bang 6 st fits)

  by_nots : {from rest : List Token} {e : Draft} → Nots from rest e → (st : List Frame) → NotMinus st → Reaches 6 st from rest e
  by_nots {e = e} (unmarked d) st free =
      let r = by_member d st in
      record { last = r.last; stack = st; runs = r.runs; settles = settle_at 6 r.last st e (unsigned_resolved r.last st free) r.is }
  by_nots (not_of {mid = mid} d) st free =
      let r = by_nots d (Waiting Bang ∷ st) tt in
      record { last = r.last; stack = r.stack; runs = run_step (operand st) Token.Bang (operand (Waiting Bang ∷ st)) mid (bang_goes st free) ∙ r.runs; settles = r.settles }

  by_negs : {from rest : List Token} {e : Draft} → Negs from rest e → (st : List Frame) → NotBang st → Reaches 6 st from rest e
  by_negs {e = e} (unsigned d) st free =
      let r = by_proper d st in
      record { last = r.last; stack = st; runs = r.runs; settles = settle_at 6 r.last st e (bare_resolved r.last st r.bare) r.is }
  by_negs (signed {n = n} {rest = rest}) st free =
      record { last = Last.Integer n; stack = Waiting Minus ∷ st; runs = run_step (operand st) Token.Minus (operand (Waiting Minus ∷ st)) (Token.Integer n ∷ rest) (minus_goes st free); settles = refl }
  by_negs (neg_of {mid = mid} d) st free =
      let r = by_negs d (Waiting Minus ∷ st) tt in
      record { last = r.last; stack = r.stack; runs = run_step (operand st) Token.Minus (operand (Waiting Minus ∷ st)) mid (minus_goes st free) ∙ r.runs; settles = r.settles }

  by_member : {from rest : List Token} {e : Draft} → Member from rest e → (st : List Frame) → Takes st from rest e
  by_member (integer_alone {n = n}) st = record { last = Last.Integer n; runs = refl; is = refl }
  by_member (proper d) st = let r = by_proper d st in record { last = r.last; runs = r.runs; is = r.is }

  by_proper : {from rest : List Token} {e : Draft} → Proper from rest e → (st : List Frame) → TakesBare st from rest e
  by_proper (Proper.name {n = n}) st = record { last = Last.Name n; runs = refl; is = refl; bare = tt }
  by_proper (Proper.literal {l = l}) st = record { last = Last.Whole (Draft.Literal l); runs = refl; is = refl; bare = tt }
  by_proper (Proper.group {rest = rest} {e = e} d) st =
      let r = by_spelled d (One Group ∷ st) tt in
      record { last = Last.Whole e; runs = r.runs ∙ after_closer Round e (One Group) st (after (Last.Whole e) st) r.last r.stack rest r.settles refl; is = refl; bare = tt }
  by_proper (Proper.list {rest = rest} {es = es} d) st =
      record { last = Last.Whole (draft.List es); runs = by_items d st rest refl; is = refl; bare = tt }
  by_proper (Proper.table {rest = rest} {ps = ps} d) st =
      record { last = Last.Whole (draft.Map ps); runs = by_entries d st rest refl; is = refl; bare = tt }
  by_proper (Proper.call {n = n} {rest = rest} {es = es} d) st =
      record { last = Last.Whole (draft.Call n es); runs = by_arguments d (Many.Call n) st rest refl; is = refl; bare = tt }
  by_proper (Proper.select {t = t} {f = f} {rest = rest} {e = e} h d) st =
      let r = by_member d st in
      record { last = Last.Field e f; runs = r.runs ∙ field_goes t f r.last st e rest h r.is; is = refl; bare = tt }
  by_proper (Proper.method {t = t} {f = f} {mid = mid} {rest = rest} {e = e} {es = es} h d ds) st =
      let r = by_member d st in
      record {
        last = Last.Whole (draft.Method e f es);
        runs = r.runs ∙ field_goes t f r.last st e (Token.Open Round ∷ mid) h r.is ∙ by_arguments ds (Many.Method e f) st rest refl;
        is = refl;
        bare = tt;
      }
  by_proper (Proper.index {mid = mid} {rest = rest} {e = e} {i = i} d di) st =
      let r = by_member d st in
      let ri = by_spelled di (One (At e) ∷ st) tt in
      record {
        last = Last.Whole (draft.Index e i);
        runs = r.runs ∙ ap (λ x. run (operand (One (At x) ∷ st)) mid) r.is ∙ ri.runs ∙ after_closer Square i (One (At e)) st (after (Last.Whole (draft.Index e i)) st) ri.last ri.stack rest ri.settles refl;
        is = refl;
        bare = tt;
      }

  by_some : {from rest : List Token} {es : List Draft} → Some_of from rest es → (k : Many) (acc : List Draft) (st : List Frame) → Collects k acc st from rest es
  by_some (last_one {e = e} d) k acc st =
      let r = by_spelled d (Several k acc ∷ st) tt in
      record { last = r.last; stack = r.stack; front = acc; final = e; runs = r.runs; settles = r.settles; is = refl }
  by_some (one_more {mid = mid} {e = e} {es = es} d ds) k acc st =
      let r = by_spelled d (Several k acc ∷ st) tt in
      let rs = by_some ds k (acc ++ e ∷ []) st in
      record {
        last = rs.last;
        stack = rs.stack;
        front = rs.front;
        final = rs.final;
        runs = r.runs ∙ after_comma e (Several k acc) st (operand (Several k (acc ++ e ∷ []) ∷ st)) r.last r.stack mid r.settles refl ∙ rs.runs;
        settles = rs.settles;
        is = rs.is ∙ append_assoc acc (e ∷ []) es;
      }

  by_arguments : {from closing : List Token} {es : List Draft} → Arguments from closing es → (k : Many) (st : List Frame) (rest : List Token) → closing ≡ Token.Close (all_closer k) ∷ rest → run (operand (Several k [] ∷ st)) from ≡ run (after (Last.Whole (all k es)) st) rest
  by_arguments no_arguments k st rest h =
      ap (λ ts. run (operand (Several k [] ∷ st)) ts) h ∙ run_step (operand (Several k [] ∷ st)) (Token.Close (all_closer k)) (after (Last.Whole (all k [])) st) rest (closes_empty k st)
  by_arguments (arguments d) k st rest h =
      let r = by_some d k [] st in
      r.runs ∙ ap (λ ts. run (after r.last r.stack) ts) h
      ∙ after_closer (all_closer k) r.final (Several k r.front) st (after (Last.Whole (all k (r.front ++ r.final ∷ []))) st) r.last r.stack rest r.settles (closes_all k r.front r.final st)
      ∙ ap (λ es. run (after (Last.Whole (all k es)) st) rest) r.is

  by_items : {from closing : List Token} {es : List Draft} → Items from closing es → (st : List Frame) (rest : List Token) → closing ≡ Token.Close Square ∷ rest → run (operand (Several Many.List [] ∷ st)) from ≡ run (after (Last.Whole (draft.List es)) st) rest
  by_items (plain d) st rest h = by_arguments d Many.List st rest h
  by_items (comma_behind d) st rest h =
      let r = by_some d Many.List [] st in
      r.runs ∙ ap (λ ts. run (after r.last r.stack) (Token.Comma ∷ ts)) h
      ∙ after_comma r.final (Several Many.List r.front) st (operand (Several Many.List (r.front ++ r.final ∷ []) ∷ st)) r.last r.stack (Token.Close Square ∷ rest) r.settles refl
      ∙ ap (λ es. run (after (Last.Whole (draft.List es)) st) rest) r.is

  by_pairs : {from rest : List Token} {ps : List DraftPair} → Pairs_of from rest ps → (acc : List DraftPair) (st : List Frame) → Pairs_up acc st from rest ps
  by_pairs (last_pair {mid = mid} {k = k} {v = v} dk dv) acc st =
      let rk = by_spelled dk (Key acc ∷ st) tt in
      let rv = by_spelled dv (Value acc k ∷ st) tt in
      record { last = rv.last; stack = rv.stack; front = acc; of = k; final = v; runs = rk.runs ∙ after_key acc k st rk.last rk.stack mid rk.settles ∙ rv.runs; settles = rv.settles; is = refl }
  by_pairs (pair_more {m1 = m1} {m2 = m2} {k = k} {v = v} {ps = ps} dk dv ds) acc st =
      let rk = by_spelled dk (Key acc ∷ st) tt in
      let rv = by_spelled dv (Value acc k ∷ st) tt in
      let rs = by_pairs ds (acc ++ pair_of k v ∷ []) st in
      record {
        last = rs.last;
        stack = rs.stack;
        front = rs.front;
        of = rs.of;
        final = rs.final;
        runs = rk.runs ∙ after_key acc k st rk.last rk.stack m1 rk.settles ∙ rv.runs ∙ after_comma v (Value acc k) st (operand (Key (acc ++ pair_of k v ∷ []) ∷ st)) rv.last rv.stack m2 rv.settles refl ∙ rs.runs;
        settles = rs.settles;
        is = rs.is ∙ append_assoc acc (pair_of k v ∷ []) ps;
      }

  by_entries : {from closing : List Token} {ps : List DraftPair} → Entries from closing ps → (st : List Frame) (rest : List Token) → closing ≡ Token.Close Curly ∷ rest → run (operand (Key [] ∷ st)) from ≡ run (after (Last.Whole (draft.Map ps)) st) rest
  by_entries no_entries st rest h = ap (λ ts. run (operand (Key [] ∷ st)) ts) h
  by_entries (entries d) st rest h =
      let r = by_pairs d [] st in
      r.runs ∙ ap (λ ts. run (after r.last r.stack) ts) h
      ∙ after_closer Curly r.final (Value r.front r.of) st (after (Last.Whole (draft.Map ((r.front ++ pair_of r.of r.final ∷ [])))) st) r.last r.stack rest r.settles refl
      ∙ ap (λ ps. run (after (Last.Whole (draft.Map ps)) st) rest) r.is
  by_entries (entries_comma d) st rest h =
      let r = by_pairs d [] st in
      r.runs ∙ ap (λ ts. run (after r.last r.stack) (Token.Comma ∷ ts)) h
      ∙ after_comma r.final (Value r.front r.of) st (operand (Key (r.front ++ pair_of r.of r.final ∷ []) ∷ st)) r.last r.stack (Token.Close Curly ∷ rest) r.settles refl
      ∙ ap (λ ps. run (after (Last.Whole (draft.Map ps)) st) rest) r.is

-- what is spelled is accepted, with its tree
pub accepted : (tokens : List Token) (e : Draft) → Spelled 0 tokens [] e → go_on (run start tokens) ended ≡ Some e
accepted tokens e d =
    let r = by_spelled d [] tt in
    ap (λ o. go_on o ended) r.runs ∙ ap (λ (x : Draft × List Frame). bottom x.0 x.1) r.settles
