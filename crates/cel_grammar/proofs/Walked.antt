-- What the walk over tokens with their limits says.
use Rattle.std.proofs.Common.{◌≡◌, ◌≢◌, ℕ, suc, ◌+◌, ◌-◌, ◌^◌, ◌<◌, ◌≤◌, Bool, true, false, cond, leb, List, [], ◌∷◌, ◌++◌, length, Option, Some, None, refl, sym, ap, ◌∙◌, subst, arith, append_assoc, length-append}
use Rattle.cel_tokens.specs.declared.token.Bracket.{Bracket}
use Rattle.cel_tokens.specs.declared.token.Bracket.TheVariants.{Round, Square, Curly}
use Rattle.cel_tokens.specs.declared.token.Literal.{Literal}
use Rattle.cel_tokens.specs.declared.token.Token.{Token}
use Rattle.cel_grammar.specs.declared.draft.Draft.{Draft}
use Rattle.cel_grammar.specs.Grammar.{TokensSpell, CanBegin}
use Rattle.cel_grammar.specs.Machine.{State, operand, dotted, after, step, go_on, run, ended, start}
use Rattle.cel_grammar.specs.declared.error.SyntaxRule.{SyntaxRule}
use Rattle.cel_grammar.specs.Faults.{open_after, EndsInSign, Extends, IsOutOfRange, Breaks, head}
use Rattle.cel_grammar.specs.Walk.{Verdict, extends, is_out, limit, is_sign, ended_in, judge, walk}
use Rattle.cel_grammar.proofs.Broken.{BreaksNoLimit, BreaksFirst, BreaksNone, is_operand, Says}
use Rattle.cel_grammar.proofs.Stack.{from_true, from_false}
use Rattle.cel_grammar.proofs.Taken.{accepted}
use Rattle.cel_grammar.proofs.Read.{spelled}
use Rattle.cel_grammar.proofs.Completed.{can_begin, cannot_begin, run-append}

-- a test says whether a fact holds
abbrev pub Tells : Bool → Type 0 → Type 0
Tells true P = P
Tells false P = P → ⊥

leb_tells' : (a b : ℕ) (r : Bool) → leb a b ≡ r → Tells r (a ≤ b)
leb_tells' a b true h = from_true a b h
leb_tells' a b false h = let k : b < a = from_false a b h in λ l. omega arith

pub extends_tells : (next : Option Token) → Tells (extends next) (Extends next)
extends_tells None = λ h. h
extends_tells (Some (Token.Name n)) = λ h. h
extends_tells (Some (Token.Reserved n)) = λ h. h
extends_tells (Some (Token.Integer n)) = λ h. h
extends_tells (Some (Token.Literal n)) = λ h. h
extends_tells (Some (Token.Sign n)) = λ h. h
extends_tells (Some Token.Minus) = λ h. h
extends_tells (Some Token.Bang) = λ h. h
extends_tells (Some Token.Question) = λ h. h
extends_tells (Some Token.Colon) = λ h. h
extends_tells (Some Token.Dot) = tt
extends_tells (Some Token.Comma) = λ h. h
extends_tells (Some (Token.Open Round)) = λ h. cc
extends_tells (Some (Token.Open Square)) = refl
extends_tells (Some (Token.Open Curly)) = λ h. cc
extends_tells (Some (Token.Close n)) = λ h. h

out_edge : (before : List Token) (n : ℕ) (next : Option Token) (b : Bool) → EndsInSign before → 2 ^ 63 ≤ n → n < 2 ^ 63 + 1 → Tells b (Extends next) → Tells b (IsOutOfRange before n next)
out_edge before n next true sign low high tells = (low, λ _ _. tells)
out_edge before n next false sign low high tells = λ out. tells (out.1 (omega arith) sign)

out_signed : (before : List Token) (n : ℕ) (next : Option Token) (x y : Bool) → EndsInSign before → leb (2 ^ 63 + 1) n ≡ x → leb (2 ^ 63) n ≡ y → Tells (cond x true (cond y (extends next) false)) (IsOutOfRange before n next)
out_signed before n next true y sign hx hy = let k : 2 ^ 63 + 1 ≤ n = from_true (2 ^ 63 + 1) n hx in (omega arith, λ e _. absurd (omega arith))
out_signed before n next false true sign hx hy = out_edge before n next (extends next) sign (from_true (2 ^ 63) n hy) (from_false (2 ^ 63 + 1) n hx) (extends_tells next)
out_signed before n next false false sign hx hy = let k : n < 2 ^ 63 = from_false (2 ^ 63) n hy in λ out. let l : 2 ^ 63 ≤ n = out.0 in omega arith

out_plain : (before : List Token) (n : ℕ) (next : Option Token) (y : Bool) → (EndsInSign before → ⊥) → leb (2 ^ 63) n ≡ y → Tells y (IsOutOfRange before n next)
out_plain before n next true none h = (from_true (2 ^ 63) n h, λ _ s. absurd (none s))
out_plain before n next false none h = let k : n < 2 ^ 63 = from_false (2 ^ 63) n h in λ out. let l : 2 ^ 63 ≤ n = out.0 in omega arith

out_tells : (before : List Token) (n : ℕ) (next : Option Token) (signed : Bool) → Tells signed (EndsInSign before) → Tells (is_out signed n (extends next)) (IsOutOfRange before n next)
out_tells before n next true tells = out_signed before n next (leb (2 ^ 63 + 1) n) (leb (2 ^ 63) n) tells refl refl
out_tells before n next false tells = out_plain before n next (leb (2 ^ 63) n) tells refl

-- what a limit that was found, or none, says
abbrev Limited : Option SyntaxRule → List Token → Token → Option Token → Type 0
Limited None before t next = BreaksNoLimit before t next
Limited (Some rule) before t next = BreaksFirst rule before t next

limited_two : (before : List Token) (t : Token) (next : Option Token) (b : Bool) → (Breaks SyntaxRule.L2 before t next → ⊥) → (Breaks SyntaxRule.S3 before t next → ⊥) → Tells b (512 ≤ length before) → Limited (cond b (Some SyntaxRule.S2) None) before t next
limited_two before t next true l2 s3 tells = (l2, tells)
limited_two before t next false l2 s3 tells = (l2, tells, s3)

limited_integer : (before : List Token) (n : ℕ) (next : Option Token) (x y : Bool) → Tells x (IsOutOfRange before n next) → Tells y (512 ≤ length before) → Limited (cond x (Some SyntaxRule.L2) (cond y (Some SyntaxRule.S2) None)) before (Token.Integer n) next
limited_integer before n next true y out many = out
limited_integer before n next false y out many = limited_two before (Token.Integer n) next y out (λ h. h) many

limited_opener : (before : List Token) (b : Bracket) (next : Option Token) (x y : Bool) → Tells x (512 ≤ length before) → Tells y (32 ≤ open_after 0 before) → Limited (cond x (Some SyntaxRule.S2) (cond y (Some SyntaxRule.S3) None)) before (Token.Open b) next
limited_opener before b next true y many deep = (λ h. h, many)
limited_opener before b next false true many deep = (λ h. h, many, deep)
limited_opener before b next false false many deep = (λ h. h, many, deep)

limit_tells : (before : List Token) (t : Token) (next : Option Token) (signed : Bool) (count deep : ℕ) → Tells signed (EndsInSign before) → count ≡ length before → deep ≡ open_after 0 before → Limited (limit t next signed count deep) before t next
limit_tells before t next signed count deep sign is_count is_deep =
    subst (λ n. Limited (limit t next signed n deep) before t next) (sym is_count)
    (subst (λ n. Limited (limit t next signed (length before) n) before t next) (sym is_deep) (by_token t))
  where
    many : Tells (leb 512 (length before)) (512 ≤ length before)
    many = leb_tells' 512 (length before) (leb 512 (length before)) refl

    by_token : (t : Token) → Limited (limit t next signed (length before) (open_after 0 before)) before t next
    by_token (Token.Integer n) = limited_integer before n next (is_out signed n (extends next)) (leb 512 (length before)) (out_tells before n next signed sign) many
    by_token (Token.Open b) = limited_opener before b next (leb 512 (length before)) (leb 32 (open_after 0 before)) many (leb_tells' 32 (open_after 0 before) (leb 32 (open_after 0 before)) refl)
    by_token (Token.Name n) = limited_two before (Token.Name n) next (leb 512 (length before)) (λ h. h) (λ h. h) many
    by_token (Token.Reserved n) = limited_two before (Token.Reserved n) next (leb 512 (length before)) (λ h. h) (λ h. h) many
    by_token (Token.Literal n) = limited_two before (Token.Literal n) next (leb 512 (length before)) (λ h. h) (λ h. h) many
    by_token (Token.Sign n) = limited_two before (Token.Sign n) next (leb 512 (length before)) (λ h. h) (λ h. h) many
    by_token Token.Minus = limited_two before Token.Minus next (leb 512 (length before)) (λ h. h) (λ h. h) many
    by_token Token.Bang = limited_two before Token.Bang next (leb 512 (length before)) (λ h. h) (λ h. h) many
    by_token Token.Question = limited_two before Token.Question next (leb 512 (length before)) (λ h. h) (λ h. h) many
    by_token Token.Colon = limited_two before Token.Colon next (leb 512 (length before)) (λ h. h) (λ h. h) many
    by_token Token.Dot = limited_two before Token.Dot next (leb 512 (length before)) (λ h. h) (λ h. h) many
    by_token Token.Comma = limited_two before Token.Comma next (leb 512 (length before)) (λ h. h) (λ h. h) many
    by_token (Token.Close n) = limited_two before (Token.Close n) next (leb 512 (length before)) (λ h. h) (λ h. h) many

-- ---- one token more

run_more : (before : List Token) (s : State) (t : Token) → run start before ≡ Some s → run start (before ++ t ∷ []) ≡ go_on (step s t) (λ n. Some n)
run_more before s t is = run-append before (t ∷ []) start ∙ ap (λ o. go_on o (λ n. run n (t ∷ []))) is

begins : (before : List Token) (s next : State) (t : Token) → run start before ≡ Some s → step s t ≡ Some next → run start (before ++ t ∷ []) ≡ Some next
begins before s next t is h = run_more before s t is ∙ ap (λ o. go_on o (λ n. Some n)) h

none_begins : (before : List Token) (s : State) (t : Token) → run start before ≡ Some s → step s t ≡ None → CanBegin (before ++ t ∷ []) → ⊥
none_begins before s t is h = cannot_begin (before ++ t ∷ []) (run_more before s t is ∙ ap (λ o. go_on o (λ n. Some n)) h)

snoc_same : (x y : List Token) (a b : Token) → x ++ a ∷ [] ≡ y ++ b ∷ [] → (x ≡ y) × (a ≡ b)
snoc_same [] [] a b h = (refl, cc)
snoc_same [] (c ∷ []) a b h = cc
snoc_same [] (c ∷ d ∷ y) a b h = cc
snoc_same (c ∷ []) [] a b h = cc
snoc_same (c ∷ d ∷ x) [] a b h = cc
snoc_same (c ∷ x) (d ∷ y) a b h =
    let heads : c ≡ d = cc in
    let tails : x ++ a ∷ [] ≡ y ++ b ∷ [] = cc in
    let more = snoc_same x y a b tails in
    (ap (λ l. c ∷ l) more.0 ∙ ap (λ e. e ∷ y) heads, more.1)

literal_step : (before : List Token) (s : State) → run start before ≡ Some s → is_operand s ≡ true → CanBegin (before ++ Token.Literal Literal.Null ∷ [])
literal_step before (operand st) is h = can_begin (before ++ Token.Literal Literal.Null ∷ []) _ (begins before (operand st) _ (Token.Literal Literal.Null) is refl)
literal_step before (dotted e st) is h = cc
literal_step before (after last st) is h = cc

no_literal : (before : List Token) (s : State) → run start before ≡ Some s → is_operand s ≡ false → CanBegin (before ++ Token.Literal Literal.Null ∷ []) → ⊥
no_literal before (operand st) is h can = cc
no_literal before (dotted e st) is h can = none_begins before (dotted e st) (Token.Literal Literal.Null) is refl can
no_literal before (after last st) is h can = none_begins before (after last st) (Token.Literal Literal.Null) is refl can

no_sign : (before : List Token) (t : Token) → t ≢ Token.Minus → EndsInSign (before ++ t ∷ []) → ⊥
no_sign before t other sign = other (snoc_same before sign.0 t Token.Minus sign.1).1

minus_sign : (before : List Token) (s : State) → run start before ≡ Some s → Tells (is_sign s Token.Minus) (EndsInSign (before ++ Token.Minus ∷ []))
minus_sign before (operand st) is = (before, refl, literal_step before (operand st) is refl)
minus_sign before (dotted e st) is = λ sign. no_literal before (dotted e st) is refl (subst (λ l. CanBegin (l ++ Token.Literal Literal.Null ∷ [])) (sym (snoc_same before sign.0 Token.Minus Token.Minus sign.1).0) sign.2)
minus_sign before (after last st) is = λ sign. no_literal before (after last st) is refl (subst (λ l. CanBegin (l ++ Token.Literal Literal.Null ∷ [])) (sym (snoc_same before sign.0 Token.Minus Token.Minus sign.1).0) sign.2)

other_sign : (before : List Token) (s : State) (t : Token) → is_sign s t ≡ false → t ≢ Token.Minus → Tells (is_sign s t) (EndsInSign (before ++ t ∷ []))
other_sign before s t is other = subst (λ b. Tells b (EndsInSign (before ++ t ∷ []))) (sym is) (no_sign before t other)

not_sign : (s : State) (t : Token) → t ≢ Token.Minus → is_sign s t ≡ false
not_sign (dotted e st) t other = refl
not_sign (after last st) t other = refl
not_sign (operand st) Token.Minus other = absurd (other refl)
not_sign (operand st) (Token.Name n) other = refl
not_sign (operand st) (Token.Reserved n) other = refl
not_sign (operand st) (Token.Integer n) other = refl
not_sign (operand st) (Token.Literal n) other = refl
not_sign (operand st) (Token.Sign n) other = refl
not_sign (operand st) Token.Bang other = refl
not_sign (operand st) Token.Question other = refl
not_sign (operand st) Token.Colon other = refl
not_sign (operand st) Token.Dot other = refl
not_sign (operand st) Token.Comma other = refl
not_sign (operand st) (Token.Open n) other = refl
not_sign (operand st) (Token.Close n) other = refl

other_than : (before : List Token) (s : State) (t : Token) → t ≢ Token.Minus → Tells (is_sign s t) (EndsInSign (before ++ t ∷ []))
other_than before s t other = other_sign before s t (not_sign s t other) other

sign_tells : (before : List Token) (s : State) (t : Token) → run start before ≡ Some s → Tells (is_sign s t) (EndsInSign (before ++ t ∷ []))
sign_tells before s Token.Minus is = minus_sign before s is
sign_tells before s (Token.Name n) is = other_than before s (Token.Name n) (λ e. cc)
sign_tells before s (Token.Reserved n) is = other_than before s (Token.Reserved n) (λ e. cc)
sign_tells before s (Token.Integer n) is = other_than before s (Token.Integer n) (λ e. cc)
sign_tells before s (Token.Literal n) is = other_than before s (Token.Literal n) (λ e. cc)
sign_tells before s (Token.Sign n) is = other_than before s (Token.Sign n) (λ e. cc)
sign_tells before s Token.Bang is = other_than before s Token.Bang (λ e. cc)
sign_tells before s Token.Question is = other_than before s Token.Question (λ e. cc)
sign_tells before s Token.Colon is = other_than before s Token.Colon (λ e. cc)
sign_tells before s Token.Dot is = other_than before s Token.Dot (λ e. cc)
sign_tells before s Token.Comma is = other_than before s Token.Comma (λ e. cc)
sign_tells before s (Token.Open n) is = other_than before s (Token.Open n) (λ e. cc)
sign_tells before s (Token.Close n) is = other_than before s (Token.Close n) (λ e. cc)

open-snoc : (n : ℕ) (before : List Token) (t : Token) → open_after (open_after n before) (t ∷ []) ≡ open_after n (before ++ t ∷ [])
open-snoc n [] t = refl
open-snoc n (Token.Open b ∷ ts) t = open-snoc (n + 1) ts t
open-snoc n (Token.Close b ∷ ts) t = open-snoc (n - 1) ts t
open-snoc n (Token.Name b ∷ ts) t = open-snoc n ts t
open-snoc n (Token.Reserved b ∷ ts) t = open-snoc n ts t
open-snoc n (Token.Integer b ∷ ts) t = open-snoc n ts t
open-snoc n (Token.Literal b ∷ ts) t = open-snoc n ts t
open-snoc n (Token.Sign b ∷ ts) t = open-snoc n ts t
open-snoc n (Token.Minus ∷ ts) t = open-snoc n ts t
open-snoc n (Token.Bang ∷ ts) t = open-snoc n ts t
open-snoc n (Token.Question ∷ ts) t = open-snoc n ts t
open-snoc n (Token.Colon ∷ ts) t = open-snoc n ts t
open-snoc n (Token.Dot ∷ ts) t = open-snoc n ts t
open-snoc n (Token.Comma ∷ ts) t = open-snoc n ts t

-- ---- a whole walk

ended_says : (before : List Token) (at : ℕ) (s : State) (o : Option Draft) → run start before ≡ Some s → ended s ≡ o → Says (ended_in o) before [] at
ended_says before at s None is h = (
  tt,
  λ e d. let yes = accepted (before ++ []) e d in
      let no : go_on (run start (before ++ [])) ended ≡ None = ap (λ o. go_on o ended) (run-append before [] start ∙ ap (λ o. go_on o (λ n. Some n)) is) ∙ h in cc,
)
ended_says before at s (Some e) is h =
    (tt, spelled (before ++ []) e (ap (λ o. go_on o ended) (run-append before [] start ∙ ap (λ o. go_on o (λ n. Some n)) is) ∙ h))

says_more : (v : Verdict) (before ts : List Token) (t : Token) (at : ℕ) → BreaksNone before t (head ts) → Says v (before ++ t ∷ []) ts (at + 1) → Says v before (t ∷ ts) at
says_more (Verdict.spelt e) before ts t at clean says = ((clean, says.0), subst (λ l. TokensSpell l e) (append_assoc before (t ∷ []) ts) says.1)
says_more (Verdict.broken k rule) before ts t at clean says = (suc says.0, omega (arith, says.1), (clean, says.2))
says_more Verdict.unended before ts t at clean says = ((clean, says.0), λ e d. says.1 e (subst (λ l. TokensSpell l e) (sym (append_assoc before (t ∷ []) ts)) d))

judged : (before ts : List Token) (t : Token) (s : State) (at : ℕ) (found : Option SyntaxRule) (o : Option State) (go : State → Verdict) → run start before ≡ Some s → Limited found before t (head ts) → step s t ≡ o →
    ((next : State) → run start (before ++ t ∷ []) ≡ Some next → Says (go next) (before ++ t ∷ []) ts (at + 1)) → Says (judge at found o go) before (t ∷ ts) at
judged before ts t s at (Some rule) o go is limited h more = (0, omega arith, limited)
judged before ts t s at None None go is limited h more = (0, omega arith, (limited, (can_begin before s is, none_begins before s t is h)))
judged before ts t s at None (Some next) go is limited h more =
    let begun = begins before s next t is h in
    says_more (go next) before ts t at (limited, can_begin (before ++ t ∷ []) next begun) (more next begun)

pub walked : (ts before : List Token) (s : State) (signed : Bool) (at deep : ℕ) → run start before ≡ Some s → Tells signed (EndsInSign before) → at ≡ length before → deep ≡ open_after 0 before → Says (walk ts s signed at deep) before ts at
walked [] before s signed at deep is sign long levels = ended_says before at s (ended s) is refl
walked (t ∷ ts) before s signed at deep is sign long levels =
    judged before ts t s at (limit t (head ts) signed at deep) (step s t) _ is (limit_tells before t (head ts) signed at deep sign long levels) refl
    (λ next begun. walked ts (before ++ t ∷ []) next (is_sign s t) (at + 1) (open_after deep (t ∷ [])) begun (sign_tells before s t is)
    (omega (arith, length-append before (t ∷ []))) (ap (λ n. open_after n (t ∷ [])) levels ∙ open-snoc 0 before t))

no_empty_sign : EndsInSign [] → ⊥
no_empty_sign sign = empty sign.0 sign.1
  where
    empty : (front : List Token) → [] ≡ front ++ Token.Minus ∷ [] → ⊥
    empty [] h = cc
    empty (x ∷ front) h = cc

pub whole_walk : (ts : List Token) → Says (walk ts start false 0 0) [] ts 0
whole_walk ts = walked ts [] start false 0 0 refl no_empty_sign refl refl

pub unique : (ts : List Token) (a b : Draft) → TokensSpell ts a → TokensSpell ts b → a ≡ b
unique ts a b da db =
    let ha = accepted ts a da in
    let hb = accepted ts b db in
    cc
