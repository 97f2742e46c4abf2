-- Calls that are macros, and the tree in which they are told apart.
use Rattle.std.specs.Prelude.{length, nat_eq, ◌&&◌, ℕ, List, [], ◌∷◌, if◌then◌else◌, Option, Some, None, codes}
use Rattle.std.specs.Str.{bytes_eq}
use Rattle.cel_values.specs.declared.expr.MacroKind.{MacroKind}
use Rattle.cel_values.specs.declared.expr.Expr.{Expr, out-Expr}
use Rattle.cel_values.specs.declared.expr.Expr.TheViews as expr
use Rattle.cel_values.specs.declared.expr.Expr.TheOpen.{Expr-F}
use Rattle.cel_values.specs.declared.expr.MapPair.{MapPair}
use Rattle.cel_tokens.specs.declared.token.Literal.{Literal}
use Rattle.cel_grammar.specs.declared.draft.Draft.{Draft, fold-Draft}
use Rattle.cel_grammar.specs.declared.draft.DraftPair.{DraftPair}
use Rattle.cel_grammar.specs.declared.draft.Draft.TheOpen.{Draft-F, DraftPair-F}

-- the macro of a name with a variable and one argument more
abbrev pub kind_of : List ℕ → Option MacroKind
kind_of w =
    if bytes_eq w (codes "all") then Some MacroKind.All else if bytes_eq w (codes "exists") then Some MacroKind.Exists else
    if bytes_eq w (codes "exists_one") then Some MacroKind.ExistsOne else if bytes_eq w (codes "filter") then Some MacroKind.Filter else
    if bytes_eq w (codes "map") then Some MacroKind.Map else None

-- the expression of a literal
abbrev pub literal_tree : Literal → Expr
literal_tree Literal.Null = Expr.Null
literal_tree (Literal.Bool b) = Expr.Bool b
literal_tree (Literal.Text t) = Expr.Text t

-- what a selection selects from, and its field; a macro that isn't of its form has no tree, and here gets an empty text
abbrev pub selection : Expr-F Expr MapPair → Expr → Expr × List ℕ
selection (Expr-F.Select e f) x = (e, f)
selection _ x = (x, [])

-- the name that a macro's variable has
abbrev pub variable : Expr-F Expr MapPair → List ℕ
variable (Expr-F.Name n) = n
variable _ = []

-- the presence test of a selection
abbrev pub has_tree : List Expr → Expr
has_tree (e ∷ []) = let s = selection (out-Expr e) e in expr.Has s.0 s.1
has_tree es = Expr.Null

-- a macro with a variable and one argument more
abbrev pub two_tree : MacroKind → Expr → List Expr → Expr
two_tree kind range (x ∷ p ∷ []) = expr.Macro kind range (variable (out-Expr x)) None p
two_tree kind range es = Expr.Null

-- a `map` with a variable, a condition and a value
abbrev pub three_tree : Expr → List Expr → Expr
three_tree range (x ∷ p ∷ v ∷ []) = expr.Macro MacroKind.Map range (variable (out-Expr x)) (Some p) v
three_tree range es = Expr.Null

-- a call of a function with these arguments
abbrev pub call_tree : List ℕ → List Expr → Expr
call_tree n es = if nat_eq (length es) 1 && bytes_eq n (codes "has") then has_tree es else expr.Call None n es

-- a macro where the name is that of one, else a call of a method
abbrev pub two_or_call : Option MacroKind → Expr → List ℕ → List Expr → Expr
two_or_call (Some kind) range n es = two_tree kind range es
two_or_call None range n es = expr.Call (Some range) n es

-- a call of a method with these arguments
abbrev pub method_tree : Expr → List ℕ → List Expr → Expr
method_tree range n es =
    if nat_eq (length es) 2 then two_or_call (kind_of n) range n es else
    if nat_eq (length es) 3 && bytes_eq n (codes "map") then three_tree range es else expr.Call (Some range) n es

-- the expression of each form, by those of its parts
abbrev pub expand_step : Draft-F Expr MapPair → Expr
expand_step (Draft-F.Literal l) = literal_tree l
expand_step (Draft-F.Int z) = Expr.Int z
expand_step (Draft-F.Name n) = Expr.Name n.text
expand_step (Draft-F.List es) = expr.List es
expand_step (Draft-F.Map ps) = expr.Map ps
expand_step (Draft-F.Select e n) = expr.Select e n.text
expand_step (Draft-F.Index a b) = expr.Index a b
expand_step (Draft-F.Call n es) = call_tree n.text es
expand_step (Draft-F.Method e n es) = method_tree e n.text es
expand_step (Draft-F.Not e) = expr.Not e
expand_step (Draft-F.Neg e) = expr.Neg e
expand_step (Draft-F.Binary op a b) = expr.Binary op a b
expand_step (Draft-F.Cond c a b) = expr.Cond c a b

-- the pair of two expressions
abbrev pub pair_step : DraftPair-F Expr MapPair → MapPair
pair_step p = record { key = p.key; value = p.value }

-- the tree with its macros
abbrev pub expanded : Draft → Expr
expanded = fold-Draft Expr MapPair expand_step pair_step

-- a pair of a map literal with its macros
abbrev pub pair_expanded : DraftPair → MapPair
pair_expanded p = record { key = expanded p.key; value = expanded p.value }
