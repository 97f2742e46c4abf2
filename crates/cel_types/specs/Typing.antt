-- The type of an expression or its first fault: the parts before the whole, from the left.
use Rattle.std.specs.Prelude.{◌≡◌, ℕ, ◌+◌, ◌<◌, ◌≤◌, Bool, ◌&&◌, map, List, [], ◌∷◌, Option, None, Some, Result, Ok, Err, ⊤, if◌then◌else◌}
use Rattle.base_types.specs.Steps.{◌>>=◌, needed}
use Rattle.cel_values.specs.declared.expr.BinaryOp.{BinaryOp}
use Rattle.cel_values.specs.declared.expr.BinaryOp.TheVariants as op
use Rattle.cel_values.specs.declared.expr.MacroKind.{MacroKind}
use Rattle.cel_values.specs.declared.expr.Expr.{Expr, fold-Expr}
use Rattle.cel_values.specs.declared.expr.Expr.TheOpen.{Expr-F, MapPair-F}
use Rattle.cel_builtins.specs.declared.function.Function.{Function}
use Rattle.cel_builtins.specs.Overloads.{function_of}
use Rattle.cel_types.specs.declared.cel_type.CelType.{CelType, out-CelType}
use Rattle.cel_types.specs.declared.cel_type.CelType.TheOpen.{CelType-F}
use Rattle.cel_types.specs.declared.cel_type.CelType.TheViews as types
use Rattle.cel_types.specs.declared.fault.TypeFault.{TypeFault}
use Rattle.cel_types.specs.declared.fault.TypeRule.{TypeRule}
use Rattle.cel_types.specs.declared.fault.CheckError.{CheckError}
use Rattle.cel_types.specs.declared.fault.CheckError.TheVariants as error
use Rattle.cel_types.specs.Types.{fits, join, join_all, all_fit}
use Rattle.cel_types.specs.Rows.{one_type, two_type, function_type}
use Rattle.cel_types.specs.Rules.{Decls, declared, with_variable, arguments, is_member}

-- what is found, or a fault
abbrev pub OrFault : Type 0 → Type 0
OrFault A = Result A TypeFault

-- this rule is broken at this node
abbrev pub broken : ℕ → TypeRule → TypeFault
broken node rule = record { node = node; rule = rule }

-- a fault at this node
abbrev pub fault : {A : Type 0} → ℕ → TypeRule → OrFault A
fault node rule = Err (broken node rule)

-- a stop for want of memory says nothing of what is found
abbrev pub Stops : {A : Type 0} → CheckError → OrFault A → Type 0
Stops error.Memory found = ⊤
Stops (error.Fault f) found = found ≡ Err f

-- what a check gives is what is found, unless memory ran out
abbrev pub Gives : {A : Type 0} → Result A CheckError → OrFault A → Type 0
Gives (Ok x) found = found ≡ Ok x
Gives (Err e) found = Stops e found

-- ---- the node's own rule, its parts having types

-- this type, where the other fits what is wanted
abbrev pub where_fits : ℕ → CelType → CelType → CelType → OrFault CelType
where_fits node u wanted t = if fits u wanted then Ok t else fault node TypeRule.T3

-- `e.field`
abbrev pub selected_type : ℕ → CelType-F CelType → OrFault CelType
selected_type node (CelType-F.Map t) = Ok t
selected_type node CelType-F.Dyn = Ok CelType.Dyn
selected_type node _ = fault node TypeRule.T3

-- `has(e.field)`
abbrev pub presence_type : ℕ → CelType-F CelType → OrFault CelType
presence_type node r = selected_type node r >>= λ t. Ok CelType.Bool

-- an index of what isn't known
abbrev pub dyn_index_type : ℕ → CelType → OrFault CelType
dyn_index_type node u = if fits u CelType.Int then Ok CelType.Dyn else where_fits node u CelType.Text CelType.Dyn

-- `e[i]`
abbrev pub index_type : ℕ → CelType-F CelType → CelType → OrFault CelType
index_type node (CelType-F.List t) u = where_fits node u CelType.Int t
index_type node (CelType-F.Map t) u = where_fits node u CelType.Text t
index_type node CelType-F.Dyn u = dyn_index_type node u
index_type node _ u = fault node TypeRule.T3

-- `in`
abbrev pub within_type : ℕ → CelType → CelType-F CelType → OrFault CelType
within_type node u (CelType-F.List t) = Ok CelType.Bool
within_type node u (CelType-F.Map t) = where_fits node u CelType.Text CelType.Bool
within_type node u CelType-F.Dyn = Ok CelType.Bool
within_type node u _ = fault node TypeRule.T3

-- `&&` and `||`
abbrev pub truth_type : ℕ → CelType → CelType → OrFault CelType
truth_type node t u = if fits t CelType.Bool && fits u CelType.Bool then Ok CelType.Bool else fault node TypeRule.T3

-- an operator that is a function of the overload table
abbrev pub table_type : Function → ℕ → CelType → CelType → OrFault CelType
table_type f node t u = needed (broken node TypeRule.T3) (two_type f t u)

-- an operator of two operands
abbrev pub operator_type : BinaryOp → ℕ → CelType → CelType → OrFault CelType
operator_type op.And node t u = truth_type node t u
operator_type op.Or node t u = truth_type node t u
operator_type op.Eq node t u = where_fits node t u CelType.Bool
operator_type op.Ne node t u = where_fits node t u CelType.Bool
operator_type op.Within node t u = within_type node t (out-CelType u)
operator_type op.Lt node t u = table_type Function.Lt node t u
operator_type op.Le node t u = table_type Function.Le node t u
operator_type op.Gt node t u = table_type Function.Gt node t u
operator_type op.Ge node t u = table_type Function.Ge node t u
operator_type op.Add node t u = table_type Function.Add node t u
operator_type op.Sub node t u = table_type Function.Sub node t u
operator_type op.Mul node t u = table_type Function.Mul node t u
operator_type op.Div node t u = table_type Function.Div node t u
operator_type op.Rem node t u = table_type Function.Rem node t u

-- `?:`
abbrev pub choice_type : ℕ → CelType → CelType → CelType → OrFault CelType
choice_type node r t u = if fits r CelType.Bool && fits t u then Ok (join t u) else fault node TypeRule.T3

-- a call: its name before its arguments' types
abbrev pub call_type : ℕ → Bool → List ℕ → List CelType → OrFault CelType
call_type node member name ts = needed (broken node TypeRule.T2) (function_of member name) >>= λ f. needed (broken node TypeRule.T3) (function_type f ts)

-- a map literal, from the types of its keys and of its values
abbrev pub literal_map_type : ℕ → List (CelType × CelType) → OrFault CelType
literal_map_type node pairs =
    if all_fit CelType.Text (map (λ p. p.0) pairs) then Ok (types.Map (join_all (map (λ p. p.1) pairs))) else fault node TypeRule.T3

-- what a macro's variable is
abbrev pub variable_type : ℕ → CelType-F CelType → OrFault CelType
variable_type node (CelType-F.List t) = Ok t
variable_type node (CelType-F.Map t) = Ok CelType.Text
variable_type node CelType-F.Dyn = Ok CelType.Dyn
variable_type node _ = fault node TypeRule.T3

-- what a macro gives, by the types of its variable and of its last argument
abbrev pub gathered_type : MacroKind → ℕ → CelType → CelType → OrFault CelType
gathered_type MacroKind.All node t u = where_fits node u CelType.Bool CelType.Bool
gathered_type MacroKind.Exists node t u = where_fits node u CelType.Bool CelType.Bool
gathered_type MacroKind.ExistsOne node t u = where_fits node u CelType.Bool CelType.Bool
gathered_type MacroKind.Filter node t u = where_fits node u CelType.Bool (types.List t)
gathered_type MacroKind.Map node t u = Ok (types.List u)

-- ---- the parts

-- How many nodes a part has, and what is found of it by the number of its first node.
pub record Typing (A : Type 0) : Type 0 where
  pub nodes : ℕ
  pub of : Decls → ℕ → OrFault A

-- a node without parts
abbrev pub leaf : {A : Type 0} → (Decls → ℕ → OrFault A) → Typing A
leaf found = record { nodes = 1; of = found }

-- a node with one part
abbrev pub one : (ℕ → CelType → OrFault CelType) → Typing CelType → Typing CelType
one rule e = record { nodes = 1 + e.nodes; of = λ d at. e.of d (at + 1) >>= λ t. rule at t }

-- a node with two parts
abbrev pub two : (ℕ → CelType → CelType → OrFault CelType) → Typing CelType → Typing CelType → Typing CelType
two rule a b = record {
  nodes = 1 + a.nodes + b.nodes;
  of = λ d at. a.of d (at + 1) >>= λ t. b.of d (at + 1 + a.nodes) >>= λ u. rule at t u;
}

-- the nodes of all of them
abbrev pub nodes_of : {A : Type 0} → List (Typing A) → ℕ
nodes_of [] = 0
nodes_of (e ∷ es) = e.nodes + nodes_of es

-- what is found of each, one after another
abbrev pub all_of : {A : Type 0} → List (Typing A) → Decls → ℕ → OrFault (List A)
all_of [] d at = Ok []
all_of (e ∷ es) d at = e.of d at >>= λ t. all_of es d (at + e.nodes) >>= λ ts. Ok (t ∷ ts)

-- a node with any number of parts
abbrev pub many : {A : Type 0} → (ℕ → List A → OrFault CelType) → List (Typing A) → Typing CelType
many rule es = record { nodes = 1 + nodes_of es; of = λ d at. all_of es d (at + 1) >>= λ ts. rule at ts }

-- a macro: its range before what its variable is, and then its other arguments
abbrev pub macro : MacroKind → Typing CelType → List ℕ → Option (Typing CelType) → Typing CelType → Typing CelType
macro kind range n None p = record {
  nodes = 1 + range.nodes + p.nodes;
  of = λ d at. range.of d (at + 1) >>= λ r. variable_type at (out-CelType r) >>= λ t. p.of (with_variable n t d) (at + 1 + range.nodes) >>= λ u.
      gathered_type kind at t u;
}
macro kind range n (Some test) p = record {
  nodes = 1 + range.nodes + test.nodes + p.nodes;
  of = λ d at. range.of d (at + 1) >>= λ r. variable_type at (out-CelType r) >>= λ t. test.of (with_variable n t d) (at + 1 + range.nodes) >>= λ s.
      p.of (with_variable n t d) (at + 1 + range.nodes + test.nodes) >>= λ u. where_fits at s CelType.Bool CelType.Bool >>= λ b. gathered_type kind at t u;
}

-- ---- the whole

-- a node, from what is found of its parts
abbrev pub typing_step : Expr-F (Typing CelType) (Typing (CelType × CelType)) → Typing CelType
typing_step Expr-F.Null = leaf (λ d at. Ok CelType.Null)
typing_step (Expr-F.Bool b) = leaf (λ d at. Ok CelType.Bool)
typing_step (Expr-F.Int z) = leaf (λ d at. Ok CelType.Int)
typing_step (Expr-F.Text s) = leaf (λ d at. Ok CelType.Text)
typing_step (Expr-F.Name n) = leaf (λ d at. needed (broken at TypeRule.T1) (declared n d))
typing_step (Expr-F.List es) = many (λ at ts. Ok (types.List (join_all ts))) es
typing_step (Expr-F.Map ps) = many literal_map_type ps
typing_step (Expr-F.Select e field) = one (λ at r. selected_type at (out-CelType r)) e
typing_step (Expr-F.Has e field) = one (λ at r. presence_type at (out-CelType r)) e
typing_step (Expr-F.Index e i) = two (λ at r u. index_type at (out-CelType r) u) e i
typing_step (Expr-F.Call target n es) = many (λ at ts. call_type at (is_member target) n ts) (arguments target es)
typing_step (Expr-F.Not e) = one (λ at t. needed (broken at TypeRule.T3) (one_type Function.Not t)) e
typing_step (Expr-F.Neg e) = one (λ at t. needed (broken at TypeRule.T3) (one_type Function.Neg t)) e
typing_step (Expr-F.Binary operator a b) = two (operator_type operator) a b
typing_step (Expr-F.Cond c a b) = record {
  nodes = 1 + c.nodes + a.nodes + b.nodes;
  of = λ d at. c.of d (at + 1) >>= λ r. a.of d (at + 1 + c.nodes) >>= λ t. b.of d (at + 1 + c.nodes + a.nodes) >>= λ u. choice_type at r t u;
}
typing_step (Expr-F.Macro kind range n test p) = macro kind range n test p

-- a pair of a map literal is no node: its key comes before its value
abbrev pub pair_step : MapPair-F (Typing CelType) (Typing (CelType × CelType)) → Typing (CelType × CelType)
pair_step p = record {
  nodes = p.key.nodes + p.value.nodes;
  of = λ d at. p.key.of d at >>= λ k. p.value.of d (at + p.key.nodes) >>= λ t. Ok (k, t);
}

-- the type of an expression or its first fault, by the number of its first node
abbrev pub typing : Expr → Typing CelType
typing = fold-Expr (Typing CelType) (Typing (CelType × CelType)) typing_step pair_step

-- the type of a whole expression or its first fault
abbrev pub checked : Decls → Expr → OrFault CelType
checked d e = (typing e).of d 0

-- the number is one from `low` on, below `high`
pub record IsAmong (node low high : ℕ) : Type 0 where
  pub from : low ≤ node
  pub below : node < high
