-- What the machine has taken can be completed to an expression: close what is open.
use Rattle.std.proofs.Common.{◌≡◌, List, [], ◌∷◌, ◌++◌, Option, Some, None, refl, ap, ◌∙◌, subst, zero-le}
use Rattle.cel_tokens.specs.declared.token.Bracket.{Bracket}
use Rattle.cel_tokens.specs.declared.token.Bracket.TheVariants.{Curly}
use Rattle.cel_tokens.specs.declared.token.Name.{Name}
use Rattle.cel_tokens.specs.declared.token.Literal.{Literal}
use Rattle.cel_tokens.specs.declared.token.Token.{Token}
use Rattle.cel_grammar.specs.declared.draft.Draft.{Draft}
use Rattle.cel_grammar.specs.declared.draft.Draft.TheViews as draft
use Rattle.cel_grammar.specs.declared.frames.Pending.TheVariants.{Left, Bang, Minus, Otherwise}
use Rattle.cel_grammar.specs.declared.frames.Single.{Single}
use Rattle.cel_grammar.specs.declared.frames.Single.TheVariants.{Group, At}
use Rattle.cel_grammar.specs.declared.frames.Many.{Many}
use Rattle.cel_grammar.specs.declared.frames.Frame.{Frame}
use Rattle.cel_grammar.specs.declared.frames.Frame.TheVariants.{Waiting, Chosen, One, Several, Key, Value}
use Rattle.cel_grammar.specs.declared.frames.Last.{Last}
use Rattle.cel_grammar.specs.Grammar.{pair_of, CanBegin}
use Rattle.cel_grammar.specs.Machine.{State, operand, dotted, after, level_of, join, one, all, one_closer, all_closer, reduce, resolved, settle, closed_by, at_colon, step, go_on, run, bottom, ended, start}
use Rattle.cel_grammar.proofs.Stack.{run_step, le_true, one_reduced}
use Rattle.cel_grammar.proofs.Taken.{accepted}
use Rattle.cel_grammar.proofs.Read.{spelled}

-- tokens that close what is open, behind an operand
abbrev pub closers : List Frame → List Token
closers [] = []
closers (Waiting p ∷ st) = closers st
closers (Chosen c ∷ st) = Token.Colon ∷ Token.Literal Literal.Null ∷ closers st
closers (One k ∷ st) = Token.Close (one_closer k) ∷ closers st
closers (Several k es ∷ st) = Token.Close (all_closer k) ∷ closers st
closers (Key ps ∷ st) = Token.Colon ∷ Token.Literal Literal.Null ∷ Token.Close Curly ∷ closers st
closers (Value ps k ∷ st) = Token.Close Curly ∷ closers st

abbrev any_name : Name
any_name = record { at = 0; text = 97 ∷ [] }

abbrev pub completion : State → List Token
completion (operand st) = Token.Literal Literal.Null ∷ closers st
completion (dotted e st) = Token.Name any_name ∷ closers st
completion (after last st) = closers st

abbrev pub Finishes : State → List Token → Type 0
Finishes s ts = (x : Draft) × (go_on (run s ts) ended ≡ Some x)

goes : (s next : State) (ts more : List Token) → run s ts ≡ run next more → Finishes next more → Finishes s ts
goes s next ts more is f = (f.0, ap (λ o. go_on o ended) is ∙ f.1)

single_closes : (k : Single) (e : Draft) (st : List Frame) → closed_by (one_closer k) e (One k ∷ st) ≡ Some (after (Last.Whole (one k e)) st)
single_closes Group e st = refl
single_closes (At a) e st = refl

many_closes : (k : Many) (es : List Draft) (e : Draft) (st : List Frame) → closed_by (all_closer k) e (Several k es ∷ st) ≡ Some (after (Last.Whole (all k (es ++ e ∷ []))) st)
many_closes Many.List es e st = refl
many_closes (Many.Call n) es e st = refl
many_closes (Many.Method a f) es e st = refl

closer_step : (b : Bracket) (e : Draft) (f : Frame) (st : List Frame) (next : State) (last : Last) (stack : List Frame) (mid : List Token) → settle 0 last stack ≡ (e, f ∷ st) → closed_by b e (f ∷ st) ≡ Some next → run (after last stack) (Token.Close b ∷ mid) ≡ run next mid
closer_step b e f st next last stack mid is closes =
    run_step (after last stack) (Token.Close b) next mid (ap (λ (r : Draft × List Frame). closed_by b r.0 r.1) is ∙ closes)

colon_step : (e : Draft) (f : Frame) (st : List Frame) (next : State) (last : Last) (stack : List Frame) (mid : List Token) → settle 0 last stack ≡ (e, f ∷ st) → at_colon e (f ∷ st) ≡ Some next → run (after last stack) (Token.Colon ∷ mid) ≡ run next mid
colon_step e f st next last stack mid is leads =
    run_step (after last stack) Token.Colon next mid (ap (λ (r : Draft × List Frame). at_colon r.0 r.1) is ∙ leads)

closed : (st : List Frame) (e : Draft) (last : Last) (stack : List Frame) → settle 0 last stack ≡ reduce 0 e st → Finishes (after last stack) (closers st)
closed [] e last stack is = (e, ap (λ (r : Draft × List Frame). bottom r.0 r.1) is)
closed (Waiting p ∷ st) e last stack is = closed st (join p e) last stack (is ∙ ap (λ b. one_reduced b 0 e p st) (le_true 0 (level_of p) zero-le))
closed (Chosen c ∷ st) e last stack is =
    goes (after last stack) (after (Last.Whole (Draft.Literal Literal.Null)) (Waiting (Otherwise c e) ∷ st)) (closers (Chosen c ∷ st)) (closers st)
    (colon_step e (Chosen c) st (operand (Waiting (Otherwise c e) ∷ st)) last stack (Token.Literal Literal.Null ∷ closers st) is refl)
    (closed st (draft.Cond c e (Draft.Literal Literal.Null)) (Last.Whole (Draft.Literal Literal.Null)) (Waiting (Otherwise c e) ∷ st) refl)
closed (One k ∷ st) e last stack is =
    goes (after last stack) (after (Last.Whole (one k e)) st) (closers (One k ∷ st)) (closers st)
    (closer_step (one_closer k) e (One k) st (after (Last.Whole (one k e)) st) last stack (closers st) is (single_closes k e st))
    (closed st (one k e) (Last.Whole (one k e)) st refl)
closed (Several k es ∷ st) e last stack is =
    let x = all k (es ++ e ∷ []) in
    goes (after last stack) (after (Last.Whole x) st) (closers (Several k es ∷ st)) (closers st)
    (closer_step (all_closer k) e (Several k es) st (after (Last.Whole x) st) last stack (closers st) is (many_closes k es e st))
    (closed st x (Last.Whole x) st refl)
closed (Key ps ∷ st) e last stack is =
    let x = draft.Map ((ps ++ pair_of e (Draft.Literal Literal.Null) ∷ [])) in
    goes (after last stack) (after (Last.Whole x) st) (closers (Key ps ∷ st)) (closers st)
    (colon_step e (Key ps) st (operand (Value ps e ∷ st)) last stack (Token.Literal Literal.Null ∷ Token.Close Curly ∷ closers st) is refl)
    (closed st x (Last.Whole x) st refl)
closed (Value ps k ∷ st) e last stack is =
    let x = draft.Map ((ps ++ pair_of k e ∷ [])) in
    goes (after last stack) (after (Last.Whole x) st) (closers (Value ps k ∷ st)) (closers st)
    (closer_step Curly e (Value ps k) st (after (Last.Whole x) st) last stack (closers st) is refl)
    (closed st x (Last.Whole x) st refl)

resolved_closers : (last : Last) (st : List Frame) → closers (resolved last st).1 ≡ closers st
resolved_closers (Last.Integer n) [] = refl
resolved_closers (Last.Integer n) (Waiting (Left a op) ∷ st) = refl
resolved_closers (Last.Integer n) (Waiting Bang ∷ st) = refl
resolved_closers (Last.Integer n) (Waiting Minus ∷ st) = refl
resolved_closers (Last.Integer n) (Waiting (Otherwise c a) ∷ st) = refl
resolved_closers (Last.Integer n) (Chosen c ∷ st) = refl
resolved_closers (Last.Integer n) (One k ∷ st) = refl
resolved_closers (Last.Integer n) (Several k es ∷ st) = refl
resolved_closers (Last.Integer n) (Key ps ∷ st) = refl
resolved_closers (Last.Integer n) (Value ps k ∷ st) = refl
resolved_closers (Last.Name n) st = refl
resolved_closers (Last.Field e f) st = refl
resolved_closers (Last.Whole e) st = refl

-- each state is completed, the reachable ones and the others
pub completes : (s : State) → Finishes s (completion s)
completes (operand st) = closed st (Draft.Literal Literal.Null) (Last.Whole (Draft.Literal Literal.Null)) st refl
completes (dotted e st) = closed st (draft.Select e any_name) (Last.Field e any_name) st refl
completes (after last st) = subst (λ ts. Finishes (after last st) ts) (resolved_closers last st) (closed (resolved last st).1 (resolved last st).0 last st refl)

go_on_run : (o : Option State) (x y : List Token) → ((s : State) → run s (x ++ y) ≡ go_on (run s x) (λ n. run n y)) → go_on o (λ s. run s (x ++ y)) ≡ go_on (go_on o (λ s. run s x)) (λ n. run n y)
go_on_run None x y h = refl
go_on_run (Some s) x y h = h s

pub run-append : (x y : List Token) (s : State) → run s (x ++ y) ≡ go_on (run s x) (λ n. run n y)
run-append [] y s = refl
run-append (t ∷ x) y s = go_on_run (step s t) x y (run-append x y)

-- the tokens that were taken begin an expression
pub can_begin : (ts : List Token) (s : State) → run start ts ≡ Some s → CanBegin ts
can_begin ts s is =
    let f = completes s in
    (completion s, f.0, spelled (ts ++ completion s) f.0 (ap (λ o. go_on o ended) (run-append ts (completion s) start ∙ ap (λ o. go_on o (λ n. run n (completion s))) is) ∙ f.1))

-- those that were not taken begin none
pub cannot_begin : (ts : List Token) → run start ts ≡ None → CanBegin ts → ⊥
cannot_begin ts is can =
    let e = accepted (ts ++ can.0) can.1 can.2 in
    let no : go_on (run start (ts ++ can.0)) ended ≡ None = ap (λ o. go_on o ended) (run-append ts can.0 start ∙ ap (λ o. go_on o (λ n. run n can.0)) is) in
    cc
