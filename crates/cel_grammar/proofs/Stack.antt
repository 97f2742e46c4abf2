-- What may stand on a stack, and what reducing leaves.
use Rattle.std.proofs.Common.{◌≡◌, ℕ, ◌<◌, ◌≤◌, Bool, true, false, cond, leb, List, [], ◌∷◌, Some, refl, sym, ap, ◌∙◌, arith}
use Rattle.std.proofs.lemmas.Bool.Decides.{nat_tests}
use Rattle.cel_values.specs.declared.expr.BinaryOp.{BinaryOp}
use Rattle.cel_values.specs.declared.expr.BinaryOp.TheVariants.{Or, And, Lt, Le, Gt, Ge, Eq, Ne, Within, Add, Sub, Mul, Div, Rem}
use Rattle.cel_tokens.specs.declared.token.Token.{Token}
use Rattle.cel_grammar.specs.declared.draft.Draft.{Draft}
use Rattle.cel_grammar.specs.declared.frames.Pending.{Pending}
use Rattle.cel_grammar.specs.declared.frames.Pending.TheVariants.{Left, Bang, Minus, Otherwise}
use Rattle.cel_grammar.specs.declared.frames.Frame.{Frame}
use Rattle.cel_grammar.specs.declared.frames.Frame.TheVariants.{Waiting, Chosen, One, Several, Key, Value}
use Rattle.cel_grammar.specs.declared.frames.Last.{Last}
use Rattle.cel_grammar.specs.Grammar.{strength}
use Rattle.cel_grammar.specs.Machine.{State, level_of, join, reduce, resolved, settle, step, go_on, run}

pub le_true : (a b : ℕ) → a ≤ b → leb a b ≡ true
le_true a b h = grind (arith, nat_tests)

pub le_false : (a b : ℕ) → b < a → leb a b ≡ false
le_false a b h = grind (arith, nat_tests)

pub from_true : (a b : ℕ) → leb a b ≡ true → a ≤ b
from_true a b h = grind (arith, nat_tests)

pub from_false : (a b : ℕ) → leb a b ≡ false → b < a
from_false a b h = grind (arith, nat_tests)

pub binds : (op : BinaryOp) → (0 < strength op) × (strength op < 6)
binds Or = (omega arith, omega arith)
binds And = (omega arith, omega arith)
binds Lt = (omega arith, omega arith)
binds Le = (omega arith, omega arith)
binds Gt = (omega arith, omega arith)
binds Ge = (omega arith, omega arith)
binds Eq = (omega arith, omega arith)
binds Ne = (omega arith, omega arith)
binds Within = (omega arith, omega arith)
binds Add = (omega arith, omega arith)
binds Sub = (omega arith, omega arith)
binds Mul = (omega arith, omega arith)
binds Div = (omega arith, omega arith)
binds Rem = (omega arith, omega arith)

-- an operand of this level may stand on the stack
abbrev pub Fits : ℕ → List Frame → Type 0
Fits l [] = Unit {0}
Fits l (Waiting (Left a op) ∷ st) = strength op < l
Fits l (Waiting Bang ∷ st) = ⊥
Fits l (Waiting Minus ∷ st) = ⊥
Fits l (Waiting (Otherwise c a) ∷ st) = Unit {0}
Fits l (Chosen c ∷ st) = 0 < l
Fits l (_ ∷ st) = Unit {0}

abbrev pub NotMinus : List Frame → Type 0
NotMinus (Waiting Minus ∷ st) = ⊥
NotMinus _ = Unit {0}

abbrev pub NotBang : List Frame → Type 0
NotBang (Waiting Bang ∷ st) = ⊥
NotBang _ = Unit {0}

pub Fits-le : (l m : ℕ) (st : List Frame) → l ≤ m → Fits l st → Fits m st
Fits-le l m [] h f = tt
Fits-le l m (Waiting (Left a op) ∷ st) h f = omega arith
Fits-le l m (Waiting Bang ∷ st) h f = absurd f
Fits-le l m (Waiting Minus ∷ st) h f = absurd f
Fits-le l m (Waiting (Otherwise c a) ∷ st) h f = tt
Fits-le l m (Chosen c ∷ st) h f = omega arith
Fits-le l m (One k ∷ st) h f = tt
Fits-le l m (Several k es ∷ st) h f = tt
Fits-le l m (Key ps ∷ st) h f = tt
Fits-le l m (Value ps k ∷ st) h f = tt

pub not_minus : (l : ℕ) (st : List Frame) → Fits l st → NotMinus st
not_minus l [] f = tt
not_minus l (Waiting (Left a op) ∷ st) f = tt
not_minus l (Waiting Bang ∷ st) f = tt
not_minus l (Waiting Minus ∷ st) f = f
not_minus l (Waiting (Otherwise c a) ∷ st) f = tt
not_minus l (Chosen c ∷ st) f = tt
not_minus l (One k ∷ st) f = tt
not_minus l (Several k es ∷ st) f = tt
not_minus l (Key ps ∷ st) f = tt
not_minus l (Value ps k ∷ st) f = tt

pub not_bang : (l : ℕ) (st : List Frame) → Fits l st → NotBang st
not_bang l [] f = tt
not_bang l (Waiting (Left a op) ∷ st) f = tt
not_bang l (Waiting Bang ∷ st) f = f
not_bang l (Waiting Minus ∷ st) f = tt
not_bang l (Waiting (Otherwise c a) ∷ st) f = tt
not_bang l (Chosen c ∷ st) f = tt
not_bang l (One k ∷ st) f = tt
not_bang l (Several k es ∷ st) f = tt
not_bang l (Key ps ∷ st) f = tt
not_bang l (Value ps k ∷ st) f = tt

-- one Waiting operator, at a test of its level
abbrev pub one_reduced : Bool → ℕ → Draft → Pending → List Frame → Draft × List Frame
one_reduced b l e p st = cond b (reduce l (join p e) st) (e, Waiting p ∷ st)

-- what fits stays
pub kept : (l : ℕ) (e : Draft) (st : List Frame) → 0 < l → Fits l st → reduce l e st ≡ (e, st)
kept l e [] h f = refl
kept l e (Waiting (Left a op) ∷ st) h f = ap (λ b. one_reduced b l e (Left a op) st) (le_false l (strength op) f)
kept l e (Waiting Bang ∷ st) h f = absurd f
kept l e (Waiting Minus ∷ st) h f = absurd f
kept l e (Waiting (Otherwise c a) ∷ st) h f = ap (λ b. one_reduced b l e (Otherwise c a) st) (le_false l 0 h)
kept l e (Chosen c ∷ st) h f = refl
kept l e (One k ∷ st) h f = refl
kept l e (Several k es ∷ st) h f = refl
kept l e (Key ps ∷ st) h f = refl
kept l e (Value ps k ∷ st) h f = refl

again_at : (l m : ℕ) (e : Draft) (p : Pending) (st : List Frame) (b : Bool) → l ≤ m → leb m (level_of p) ≡ b →
    reduce l (reduce m (join p e) st).0 (reduce m (join p e) st).1 ≡ reduce l (join p e) st →
    reduce l (one_reduced b m e p st).0 (one_reduced b m e p st).1 ≡ reduce l e (Waiting p ∷ st)
again_at l m e p st true h is so_far =
    let most : m ≤ level_of p = from_true m (level_of p) is in
    so_far ∙ sym (ap (λ b. one_reduced b l e p st) (le_true l (level_of p) (omega arith)))
again_at l m e p st false h is so_far = refl

-- to reduce twice is to reduce once
pub again : (l m : ℕ) (e : Draft) (st : List Frame) → l ≤ m → reduce l (reduce m e st).0 (reduce m e st).1 ≡ reduce l e st
again l m e [] h = refl
again l m e (Waiting p ∷ st) h = again_at l m e p st (leb m (level_of p)) h refl (again l m (join p e) st h)
again l m e (Chosen c ∷ st) h = refl
again l m e (One k ∷ st) h = refl
again l m e (Several k es ∷ st) h = refl
again l m e (Key ps ∷ st) h = refl
again l m e (Value ps k ∷ st) h = refl

-- the last operand settled at a level, and then at a weaker one
pub settled : (l m : ℕ) (last : Last) (stack st : List Frame) (e : Draft) → l ≤ m → settle m last stack ≡ reduce m e st → settle l last stack ≡ reduce l e st
settled l m last stack st e h is =
    sym (again l m (resolved last stack).0 (resolved last stack).1 h) ∙ ap (λ (r : Draft × List Frame). reduce l r.0 r.1) is ∙ again l m e st h

pub run_step : (s : State) (t : Token) (next : State) (ts : List Token) → step s t ≡ Some next → run s (t ∷ ts) ≡ run next ts
run_step s t next ts h = ap (λ o. go_on o (λ n. run n ts)) h
