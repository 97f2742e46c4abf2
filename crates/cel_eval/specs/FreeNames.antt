-- Which names an expression depends on.
use Rattle.std.specs.Prelude.{◌≡◌, ℕ, Bool, true, false, not, ◌&&◌, ◌||◌, List, None, Some}
use Rattle.std.specs.List.{list_any}
use Rattle.std.specs.Str.{bytes_eq}
use Rattle.cel_values.specs.declared.expr.Expr.{Expr, fold-Expr}
use Rattle.cel_values.specs.declared.expr.Expr.TheOpen.{Expr-F, MapPair-F}
use Rattle.cel_eval.specs.Denotation.{Env, lookup, is_yes}

-- whether a name occurs free, by its parts: a macro binds its variable in its test and its body, and not in its range
abbrev pub free_step : List ℕ → Expr-F Bool Bool → Bool
free_step name Expr-F.Null = false
free_step name (Expr-F.Bool b) = false
free_step name (Expr-F.Int z) = false
free_step name (Expr-F.Text t) = false
free_step name (Expr-F.Name n) = bytes_eq name n
free_step name (Expr-F.List items) = list_any is_yes items
free_step name (Expr-F.Map pairs) = list_any is_yes pairs
free_step name (Expr-F.Select e field) = e
free_step name (Expr-F.Has e field) = e
free_step name (Expr-F.Index e i) = e || i
free_step name (Expr-F.Call None callee items) = list_any is_yes items
free_step name (Expr-F.Call (Some target) callee items) = target || list_any is_yes items
free_step name (Expr-F.Not e) = e
free_step name (Expr-F.Neg e) = e
free_step name (Expr-F.Binary op a b) = a || b
free_step name (Expr-F.Cond c a b) = c || (a || b)
free_step name (Expr-F.Macro kind range variable None body) = range || (not (bytes_eq name variable) && body)
free_step name (Expr-F.Macro kind range variable (Some test) body) = range || (not (bytes_eq name variable) && (test || body))

-- in a pair's key or in its value
abbrev pub free_in_pair : MapPair-F Bool Bool → Bool
free_in_pair pair = pair.key || pair.value

-- whether a name occurs free in an expression
abbrev pub occurs_free : List ℕ → Expr → Bool
occurs_free name = fold-Expr Bool Bool (free_step name) free_in_pair

-- environments in which each name that occurs free in an expression stands for the same value, or for none in either
abbrev pub Agree : Expr → Env → Env → Type 0
Agree e env other = (name : List ℕ) → occurs_free name e ≡ true → lookup name env ≡ lookup name other
