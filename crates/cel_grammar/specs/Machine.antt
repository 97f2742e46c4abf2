-- A machine that reads tokens one at a time, and keeps what is open on a stack, the innermost first.
use Rattle.std.specs.Prelude.{ℕ, pos, neg_ℤ, List, [], ◌∷◌, ◌++◌, Option, Some, None, Bool, true, false, if◌then◌else◌, nat_le}
use Rattle.cel_values.specs.declared.expr.BinaryOp.{BinaryOp}
use Rattle.cel_values.specs.declared.expr.BinaryOp.TheVariants.{Sub}
use Rattle.cel_tokens.specs.declared.token.Bracket.{Bracket}
use Rattle.cel_tokens.specs.declared.token.Bracket.TheVariants.{Round, Square, Curly}
use Rattle.cel_tokens.specs.declared.token.Name.{Name}
use Rattle.cel_tokens.specs.declared.token.Token.{Token}
use Rattle.cel_grammar.specs.declared.draft.Draft.{Draft}
use Rattle.cel_grammar.specs.declared.draft.Draft.TheViews as draft
use Rattle.cel_grammar.specs.declared.frames.Pending.{Pending}
use Rattle.cel_grammar.specs.declared.frames.Pending.TheVariants.{Left, Bang, Minus, Otherwise}
use Rattle.cel_grammar.specs.declared.frames.Single.{Single}
use Rattle.cel_grammar.specs.declared.frames.Single.TheVariants.{Group, At}
use Rattle.cel_grammar.specs.declared.frames.Many.{Many}
use Rattle.cel_grammar.specs.declared.frames.Frame.{Frame}
use Rattle.cel_grammar.specs.declared.frames.Frame.TheVariants.{Waiting, Chosen, One, Several, Key, Value}
use Rattle.cel_grammar.specs.declared.frames.Last.{Last}
use Rattle.cel_grammar.specs.Grammar.{strength, field_of, pair_of}

-- what may come next: an operand, a field behind a dot, or what follows an operand
pub data State : Type 0 where
  operand : List Frame → State
  dotted : Draft → List Frame → State
  after : Last → List Frame → State

-- the level at which an operator takes its last operand
abbrev pub level_of : Pending → ℕ
level_of (Left a op) = strength op
level_of Bang = 6
level_of Minus = 6
level_of (Otherwise c a) = 0

-- the operator with its last operand
abbrev pub join : Pending → Draft → Draft
join (Left a op) e = draft.Binary op a e
join Bang e = draft.Not e
join Minus e = draft.Neg e
join (Otherwise c a) e = draft.Cond c a e

-- the expression in a bracket, or an index
abbrev pub one : Single → Draft → Draft
one Group e = e
one (At a) e = draft.Index a e

-- the list or the call of the expressions in a bracket
abbrev pub all : Many → List Draft → Draft
all Many.List es = draft.List es
all (Many.Call n) es = draft.Call n es
all (Many.Method e f) es = draft.Method e f es

-- the bracket that closes one expression
abbrev pub one_closer : Single → Bracket
one_closer Group = Round
one_closer (At a) = Square

-- the bracket that closes expressions
abbrev pub all_closer : Many → Bracket
all_closer Many.List = Square
all_closer (Many.Call n) = Round
all_closer (Many.Method e f) = Round

-- the last operand when nothing extends it
abbrev pub tree_of : Last → Draft
tree_of (Last.Integer n) = Draft.Int (pos n)
tree_of (Last.Name n) = Draft.Name n
tree_of (Last.Field e f) = draft.Select e f
tree_of (Last.Whole e) = e

-- what is Waiting at a level or a stronger one gets its operand
abbrev pub reduce : ℕ → Draft → List Frame → Draft × List Frame
reduce l e [] = (e, [])
reduce l e (Waiting p ∷ st) = if nat_le l (level_of p) then reduce l (join p e) st else (e, Waiting p ∷ st)
reduce l e (f ∷ st) = (e, f ∷ st)

-- the last operand and what is open before it: a sign belongs to an Last.Integer
abbrev pub resolved : Last → List Frame → Draft × List Frame
resolved (Last.Integer n) (Waiting Minus ∷ st) = (Draft.Int (neg_ℤ (pos n)), st)
resolved last st = (tree_of last, st)

-- the last operand, with what is pending at a level or a stronger one
abbrev pub settle : ℕ → Last → List Frame → Draft × List Frame
settle l last st = reduce l (resolved last st).0 (resolved last st).1

-- goes on where the brackets agree
abbrev pub same : Bracket → Bracket → Option State → Option State
same Round Round s = s
same Square Square s = s
same Curly Curly s = s
same _ _ s = None

-- a bracket that closes behind an operand
abbrev pub closed_by : Bracket → Draft → List Frame → Option State
closed_by b e (One k ∷ st) = same b (one_closer k) (Some (after (Last.Whole (one k e)) st))
closed_by b e (Several k es ∷ st) = same b (all_closer k) (Some (after (Last.Whole (all k (es ++ e ∷ []))) st))
closed_by b e (Value ps k ∷ st) = same b Curly (Some (after (Last.Whole (draft.Map ((ps ++ pair_of k e ∷ [])))) st))
closed_by b e _ = None

-- a call's arguments end with no comma
abbrev pub can_close : Many → List Draft → Bool
can_close Many.List es = true
can_close (Many.Call n) [] = true
can_close (Many.Call n) (e ∷ es) = false
can_close (Many.Method a f) [] = true
can_close (Many.Method a f) (e ∷ es) = false

-- a bracket that closes with nothing before it, or behind a comma
abbrev pub closed_empty : Bracket → List Frame → Option State
closed_empty b (Several k es ∷ st) = if can_close k es then same b (all_closer k) (Some (after (Last.Whole (all k es)) st)) else None
closed_empty b (Key ps ∷ st) = same b Curly (Some (after (Last.Whole (draft.Map ps)) st))
closed_empty b _ = None

-- a `:` behind an operand: of a condition, or behind a key
abbrev pub at_colon : Draft → List Frame → Option State
at_colon e (Chosen c ∷ st) = Some (operand (Waiting (Otherwise c e) ∷ st))
at_colon e (Key ps ∷ st) = Some (operand (Value ps e ∷ st))
at_colon e _ = None

-- a comma behind an operand
abbrev pub at_comma : Draft → List Frame → Option State
at_comma e (Several k es ∷ st) = Some (operand (Several k (es ++ e ∷ []) ∷ st))
at_comma e (Value ps k ∷ st) = Some (operand (Key (ps ++ pair_of k e ∷ []) ∷ st))
at_comma e _ = None

-- a `?` behind an operand, which may not stand between another and its `:`
abbrev pub at_question : Draft → List Frame → Option State
at_question e (Chosen c ∷ st) = None
at_question e st = Some (operand (Chosen e ∷ st))

-- a `!` before an operand, but for one behind a `-`
abbrev pub at_bang : List Frame → Option State
at_bang (Waiting Minus ∷ st) = None
at_bang st = Some (operand (Waiting Bang ∷ st))

-- a `-` before an operand, but for one behind a `!`
abbrev pub at_minus : List Frame → Option State
at_minus (Waiting Bang ∷ st) = None
at_minus st = Some (operand (Waiting Minus ∷ st))

-- a bracket that opens before an operand
abbrev pub opened : Bracket → List Frame → State
opened Round st = operand (One Group ∷ st)
opened Square st = operand (Several Many.List [] ∷ st)
opened Curly st = operand (Key [] ∷ st)

-- the bracket of a call, which stands behind a name or a field alone
abbrev pub called : Last → List Frame → Option State
called (Last.Name n) st = Some (operand (Several (Many.Call n) [] ∷ st))
called (Last.Field e f) st = Some (operand (Several (Many.Method e f) [] ∷ st))
called _ st = None

-- a bracket that opens behind an operand
abbrev pub opened_after : Bracket → Last → List Frame → Option State
opened_after Round last st = called last st
opened_after Square last st = Some (operand (One (At (tree_of last)) ∷ st))
opened_after Curly last st = None

-- an operator of two operands behind its first
abbrev pub at_operator : BinaryOp → Last → List Frame → Option State
at_operator op last st = let r = settle (strength op) last st in Some (operand (Waiting (Left r.0 op) ∷ r.1))

-- a token where an operand is to come
abbrev pub at_operand : Token → List Frame → Option State
at_operand (Token.Name n) st = Some (after (Last.Name n) st)
at_operand (Token.Integer n) st = Some (after (Last.Integer n) st)
at_operand (Token.Literal l) st = Some (after (Last.Whole (Draft.Literal l)) st)
at_operand Token.Bang st = at_bang st
at_operand Token.Minus st = at_minus st
at_operand (Token.Open b) st = Some (opened b st)
at_operand (Token.Close b) st = closed_empty b st
at_operand _ st = None

-- a field behind a dot
abbrev pub at_dotted : Option Name → Draft → List Frame → Option State
at_dotted None e st = None
at_dotted (Some f) e st = Some (after (Last.Field e f) st)

-- a token behind an operand
abbrev pub at_after : Token → Last → List Frame → Option State
at_after (Token.Sign op) last st = at_operator op last st
at_after Token.Minus last st = at_operator Sub last st
at_after Token.Dot last st = Some (dotted (tree_of last) st)
at_after (Token.Open b) last st = opened_after b last st
at_after Token.Question last st = let r = settle 1 last st in at_question r.0 r.1
at_after Token.Colon last st = let r = settle 0 last st in at_colon r.0 r.1
at_after Token.Comma last st = let r = settle 0 last st in at_comma r.0 r.1
at_after (Token.Close b) last st = let r = settle 0 last st in closed_by b r.0 r.1
at_after _ last st = None

-- the state behind one more token, where that can follow
abbrev pub step : State → Token → Option State
step (operand st) t = at_operand t st
step (dotted e st) t = at_dotted (field_of t) e st
step (after last st) t = at_after t last st

-- goes on from a state, if there is one
abbrev pub go_on : {X : Type 0} → Option State → (State → Option X) → Option X
go_on None go = None
go_on (Some s) go = go s

-- the state behind some tokens, where each can follow
abbrev pub run : State → List Token → Option State
run s [] = Some s
run s (t ∷ ts) = go_on (step s t) (λ next. run next ts)

-- the tree, where nothing is open
abbrev pub bottom : Draft → List Frame → Option Draft
bottom e [] = Some e
bottom e _ = None

-- the tree, where the tokens may end
abbrev pub ended : State → Option Draft
ended (operand st) = None
ended (dotted e st) = None
ended (after last st) = let r = settle 0 last st in bottom r.0 r.1

-- the state before the first token
abbrev pub start : State
start = operand []
