-- One turn of the parser's loop.
use Rattle.std.proofs.Common.{◌≡◌, ℕ, zero, suc, ◌+◌, ◌^◌, ◌<◌, ◌≤◌, Bool, true, false, cond, leb, List, [], ◌∷◌, length, Option, Some, None, Err, IfSome, refl, sym, ap, ◌∙◌, subst, arith, add-one, drop, drop-cons, get_or}
use Rattle.cel_tokens.specs.declared.token.Token.{Token}
use Rattle.cel_grammar.specs.declared.draft.Draft.{Draft}
use Rattle.cel_grammar.specs.declared.frames.Pending.TheVariants.{Left, Bang, Minus, Otherwise}
use Rattle.cel_grammar.specs.declared.frames.Frame.{Frame}
use Rattle.cel_grammar.specs.declared.frames.Frame.TheVariants.{Waiting, Chosen, One, Several, Key, Value}
use Rattle.cel_grammar.specs.declared.frames.Last.{Last}
use Rattle.cel_grammar.specs.Machine.{State, operand, dotted, after, all, same, step, ended, start}
use Rattle.std.proofs.lemmas.List.{drop_all}
use Rattle.cel_tokens.specs.declared.token.Lexeme.{Lexeme}
use Rattle.cel_grammar.specs.declared.error.SyntaxRule.{SyntaxRule}
use Rattle.cel_grammar.specs.Faults.{open_after, Extends, head, kinds}
use Rattle.cel_grammar.specs.Walk.{extends, is_out, limit, limit_by, is_sign, judge, walk, ended_in, Verdict, broken}
use Rattle.cel_grammar.specs.declared.error.ParseError.{ParseError}
use Rattle.cel_grammar.specs.declared.error.ParseError.TheVariants.{Fault, Memory}
use Rattle.cel_grammar.specs.Answer.{place_of, answer, IsJudged, Advances, Gives}
use Rattle.cel_grammar.specs.Ready.{IsReady, IsReadyFor}
use Rattle.cel_grammar.proofs.Stack.{from_false}
use Rattle.cel_grammar.proofs.Signs.{signs, IsBehind, step_leads}
use Rattle.cel_grammar.proofs.Walked.{Tells, extends_tells}

extends_true : (next : Option Token) (b : Bool) → extends next ≡ b → Tells b (Extends next) → Extends next → b ≡ true
extends_true next true is tells h = refl
extends_true next false is tells h = absurd (tells h)

small : (n : ℕ) (b : Bool) → leb (2 ^ 63) n ≡ b → b ≡ false → n < 2 ^ 63
small n b is no_more = from_false (2 ^ 63) n (is ∙ no_more)

edge : (n : ℕ) (extended x y : Bool) → leb (2 ^ 63 + 1) n ≡ x → leb (2 ^ 63) n ≡ y → cond x true (cond y extended false) ≡ false → (n ≤ 2 ^ 63) × (extended ≡ true → n < 2 ^ 63)
edge n extended true y hx hy h = cc
edge n extended false true hx hy h = let k : n < 2 ^ 63 + 1 = from_false (2 ^ 63 + 1) n hx in (omega arith, λ e. cc)
edge n extended false false hx hy h = let k : n < 2 ^ 63 = from_false (2 ^ 63) n hy in (omega arith, λ e. k)

ready_at : (n : ℕ) (extended : Bool) (st : List Frame) → is_out (signs (operand st)) n extended ≡ false → IsReady (Last.Integer n) st × (extended ≡ true → n < 2 ^ 63)
ready_at n extended (Waiting Minus ∷ st) h = edge n extended (leb (2 ^ 63 + 1) n) (leb (2 ^ 63) n) refl refl h
ready_at n extended [] h = let k = small n (leb (2 ^ 63) n) refl h in (k, λ _. k)
ready_at n extended (Waiting (Left a op) ∷ st) h = let k = small n (leb (2 ^ 63) n) refl h in (k, λ _. k)
ready_at n extended (Waiting Bang ∷ st) h = let k = small n (leb (2 ^ 63) n) refl h in (k, λ _. k)
ready_at n extended (Waiting (Otherwise c a) ∷ st) h = let k = small n (leb (2 ^ 63) n) refl h in (k, λ _. k)
ready_at n extended (Chosen c ∷ st) h = let k = small n (leb (2 ^ 63) n) refl h in (k, λ _. k)
ready_at n extended (One f ∷ st) h = let k = small n (leb (2 ^ 63) n) refl h in (k, λ _. k)
ready_at n extended (Several f es ∷ st) h = let k = small n (leb (2 ^ 63) n) refl h in (k, λ _. k)
ready_at n extended (Key ps ∷ st) h = let k = small n (leb (2 ^ 63) n) refl h in (k, λ _. k)
ready_at n extended (Value ps f ∷ st) h = let k = small n (leb (2 ^ 63) n) refl h in (k, λ _. k)

in_range : (n : ℕ) (x y : Bool) → cond x (Some SyntaxRule.L2) (cond y (Some SyntaxRule.S2) None) ≡ None → x ≡ false
in_range n true y h = cc
in_range n false y h = refl

integer_ready : (s : State) (n : ℕ) (st : List Frame) (next : Option Token) (count deep : ℕ) → step s (Token.Integer n) ≡ Some (after (Last.Integer n) st) →
    limit_by (Token.Integer n) (extends next) (signs s) count deep ≡ None → IsReadyFor (after (Last.Integer n) st) next
integer_ready (dotted e fs) n st next count deep is free = cc
integer_ready (after last fs) n st next count deep is free = cc
integer_ready (operand fs) n st next count deep is free =
    let same : fs ≡ st = cc in
    let out = in_range n (is_out (signs (operand fs)) n (extends next)) (leb 512 count) free in
    let r = ready_at n (extends next) fs out in
    subst (λ x. IsReadyFor (after (Last.Integer n) x) next) same (r.0, λ e. r.1 (extends_true next (extends next) refl (extends_tells next) e))

ready_next : (s : State) (t : Token) (next : State) (following : Option Token) (count deep : ℕ) → step s t ≡ Some next → IsBehind next t → limit_by t (extends following) (signs s) count deep ≡ None → IsReadyFor next following
ready_next s t (operand st) following count deep is behind free = tt
ready_next s t (dotted e st) following count deep is behind free = tt
ready_next s t (after (Last.Name n) st) following count deep is behind free = (tt, λ _. tt)
ready_next s t (after (Last.Field e f) st) following count deep is behind free = (tt, λ _. tt)
ready_next s t (after (Last.Whole e) st) following count deep is behind free = (tt, λ _. tt)
ready_next s t (after (Last.Integer n) st) following count deep is behind free =
    integer_ready s n st following count deep (ap (λ x. step s x) (sym behind) ∙ is) (ap (λ x. limit_by x (extends following) (signs s) count deep) (sym behind) ∙ free)

-- what one more token keeps
pub kept_on : (t : Token) (ts all : List Token) (s next : State) (signed : Bool) (at deep : ℕ) → all ≡ t ∷ ts → signed ≡ signs s →
    limit_by t (extends (head ts)) signed at deep ≡ None → step s t ≡ Some next →
    (walk ts next (is_sign s t) (at + 1) (open_after deep (t ∷ [])) ≡ walk all s signed at deep) × IsReadyFor next (head ts) × (is_sign s t ≡ signs next)
kept_on t ts all s next signed at deep cut sign free is =
    let leads = subst (λ o. IfSome o (λ n. (signs n ≡ is_sign s t) × IsBehind n t)) is (step_leads s t) in
    let go : State → Verdict = λ n. walk ts n (is_sign s t) (at + 1) (open_after deep (t ∷ [])) in (
      sym (ap (λ l. walk l s signed at deep) cut ∙ ap (λ o. judge at o (step s t) go) free ∙ ap (λ o. judge at None o go) is),
      ready_next s t next (head ts) at deep is leads.1 (ap (λ b. limit_by t (extends (head ts)) b at deep) (sym sign) ∙ free),
      sym leads.0,
    )

-- ---- the slice of tokens

pub cut_at : (ls : List Lexeme) (at : ℕ) (l : Lexeme) → at < length ls → l ≡ get_or ls at l → kinds (drop at ls) ≡ l.token ∷ kinds (drop (at + 1) ls)
cut_at ls at l less is =
    ap kinds (drop-cons ls at l less) ∙ ap (λ (x : Lexeme). x.token ∷ kinds (drop (suc at) ls)) (sym is) ∙ ap (λ n. l.token ∷ kinds (drop n ls)) (sym (add-one at))

pub place_at : (ls : List Lexeme) (at : ℕ) (l : Lexeme) → at < length ls → l ≡ get_or ls at l → place_of ls at ≡ l.at
place_at [] at l less is = absurd (omega arith)
place_at (x ∷ ls) zero l less is = ap (λ (y : Lexeme). y.at) (sym is)
place_at (x ∷ ls) (suc at) l less is = place_at ls at l (omega arith) is

-- a token that breaks a limit
pub limit_answer : (ls : List Lexeme) (stop : Option ℕ) (size at : ℕ) (l : Lexeme) (s : State) (sign : Bool) (deep : ℕ) (rule : SyntaxRule) → at < length ls → l ≡ get_or ls at l →
    walk (kinds (drop at ls)) s sign at deep ≡ walk (kinds ls) start false 0 0 → limit_by l.token (extends (head (kinds (drop (at + 1) ls)))) sign at deep ≡ Some rule →
    answer ls stop size (walk (kinds ls) start false 0 0) ≡ Err (l.at, rule)
limit_answer ls stop size at l s sign deep rule less is same broke =
    let t = l.token in
    let more = kinds (drop (at + 1) ls) in
    let go : State → Verdict = λ n. walk more n (is_sign s t) (at + 1) (open_after deep (t ∷ [])) in
    let verdict : walk (kinds ls) start false 0 0 ≡ broken at rule =
    sym same ∙ ap (λ k. walk k s sign at deep) (cut_at ls at l less is) ∙ ap (λ o. judge at o (step s t) go) broke in
    ap (answer ls stop size) verdict ∙ ap (λ n. Err (n, rule)) (place_at ls at l less is)

-- a token that can't follow
pub step_answer : (ls : List Lexeme) (stop : Option ℕ) (size at : ℕ) (l : Lexeme) (s : State) (sign : Bool) (deep : ℕ) → at < length ls → l ≡ get_or ls at l →
    walk (kinds (drop at ls)) s sign at deep ≡ walk (kinds ls) start false 0 0 → limit_by l.token (extends (head (kinds (drop (at + 1) ls)))) sign at deep ≡ None → step s l.token ≡ None →
    answer ls stop size (walk (kinds ls) start false 0 0) ≡ Err (l.at, SyntaxRule.S1)
step_answer ls stop size at l s sign deep less is same free none =
    let t = l.token in
    let more = kinds (drop (at + 1) ls) in
    let go : State → Verdict = λ n. walk more n (is_sign s t) (at + 1) (open_after deep (t ∷ [])) in
    let verdict : walk (kinds ls) start false 0 0 ≡ broken at SyntaxRule.S1 =
    sym same ∙ ap (λ k. walk k s sign at deep) (cut_at ls at l less is) ∙ ap (λ o. judge at o (step s t) go) free ∙ ap (λ o. judge at None o go) none in
    ap (answer ls stop size) verdict ∙ ap (λ n. Err (n, SyntaxRule.S1)) (place_at ls at l less is)

-- the tokens end
pub end_answer : (ls : List Lexeme) (stop : Option ℕ) (size at : ℕ) (s : State) (sign : Bool) (deep : ℕ) → length ls ≤ at →
    walk (kinds (drop at ls)) s sign at deep ≡ walk (kinds ls) start false 0 0 → answer ls stop size (walk (kinds ls) start false 0 0) ≡ answer ls stop size (ended_in (ended s))
end_answer ls stop size at s sign deep past same = ap (answer ls stop size) (sym same ∙ ap (λ l. walk (kinds l) s sign at deep) (drop_all at ls past))

pub ended_stop : (ls : List Lexeme) (at size : ℕ) (o : Option Draft) → answer ls (Some at) size (ended_in o) ≡ Err (at, SyntaxRule.L1)
ended_stop ls at size None = refl
ended_stop ls at size (Some e) = refl

pub open_bound : (deep : ℕ) (t : Token) → open_after deep (t ∷ []) ≤ deep + 1
open_bound deep (Token.Open b) = omega arith
open_bound deep (Token.Close b) = omega arith
open_bound deep (Token.Name b) = omega arith
open_bound deep (Token.Reserved b) = omega arith
open_bound deep (Token.Integer b) = omega arith
open_bound deep (Token.Literal b) = omega arith
open_bound deep (Token.Sign b) = omega arith
open_bound deep Token.Minus = omega arith
open_bound deep Token.Bang = omega arith
open_bound deep Token.Question = omega arith
open_bound deep Token.Colon = omega arith
open_bound deep Token.Dot = omega arith
open_bound deep Token.Comma = omega arith

fault_answer : (ls : List Lexeme) (stop : Option ℕ) (size at : ℕ) (l : Lexeme) (s : State) (sign : Bool) (deep : ℕ) (found : Option SyntaxRule) (place : ℕ) (rule : SyntaxRule) → at < length ls → l ≡ get_or ls at l →
    walk (kinds (drop at ls)) s sign at deep ≡ walk (kinds ls) start false 0 0 → found ≡ limit_by l.token (extends (head (kinds (drop (at + 1) ls)))) sign at deep → place ≡ l.at → IsJudged found (step s l.token) rule →
    answer ls stop size (walk (kinds ls) start false 0 0) ≡ Err (place, rule)
fault_answer ls stop size at l s sign deep (Some r) place rule less is same found here judged =
    limit_answer ls stop size at l s sign deep r less is same (sym found) ∙ ap (λ n. Err (n, r)) (sym here) ∙ ap (λ x. Err (place, x)) judged
fault_answer ls stop size at l s sign deep None place rule less is same found here judged =
    step_answer ls stop size at l s sign deep less is same (sym found) judged.0 ∙ ap (λ n. Err (n, SyntaxRule.S1)) (sym here) ∙ ap (λ x. Err (place, x)) (sym judged.1)

-- an error that one token leads to
pub error_answer : (ls : List Lexeme) (stop : Option ℕ) (size at : ℕ) (l : Lexeme) (s : State) (sign : Bool) (deep : ℕ) (found : Option SyntaxRule) (fs : List Frame) (x : ParseError) → at < length ls → l ≡ get_or ls at l →
    walk (kinds (drop at ls)) s sign at deep ≡ walk (kinds ls) start false 0 0 → found ≡ limit_by l.token (extends (head (kinds (drop (at + 1) ls)))) sign at deep → Advances l found (step s l.token) fs (Err x) →
    Gives (Err x) (answer ls stop size (walk (kinds ls) start false 0 0))
error_answer ls stop size at l s sign deep found fs Memory less is same limit h = tt
error_answer ls stop size at l s sign deep found fs (Fault place rule) less is same limit h = fault_answer ls stop size at l s sign deep found place rule less is same limit h.0 h.1
