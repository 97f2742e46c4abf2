-- The typing relation. One rule a form; what a rule asks of its parts' types is a small family beside it.
use Rattle.std.specs.Prelude.{◌≡◌, ℕ, ℤ, ⊤, Bool, true, false, List, [], ◌∷◌, Option, None, Some, if◌then◌else◌}
use Rattle.std.specs.Str.{bytes_eq}
use Rattle.cel_values.specs.declared.expr.BinaryOp.{BinaryOp}
use Rattle.cel_values.specs.declared.expr.BinaryOp.TheVariants as op
use Rattle.cel_values.specs.declared.expr.MacroKind.{MacroKind}
use Rattle.cel_values.specs.declared.expr.Expr.{Expr}
use Rattle.cel_values.specs.declared.expr.Expr.TheViews as expr
use Rattle.cel_values.specs.declared.expr.MapPair.{MapPair}
use Rattle.cel_builtins.specs.declared.function.Function.{Function}
use Rattle.cel_builtins.specs.Overloads.{function_of}
use Rattle.cel_types.specs.declared.cel_type.CelType.{CelType}
use Rattle.cel_types.specs.declared.cel_type.CelType.TheViews as types
use Rattle.cel_types.specs.declared.cel_type.Declaration.{Declaration}
use Rattle.cel_types.specs.Types.{fits, join, join_all, all_fit}
use Rattle.cel_types.specs.Rows.{one_type, two_type, function_type}

-- names and their types, of which the first of a name counts
abbrev pub Decls : Type 0
Decls = List Declaration

-- the type of the first declaration of a name
abbrev pub declared : List ℕ → Decls → Option CelType
declared name [] = None
declared name (d ∷ ds) = if bytes_eq name d.name then Some d.of else declared name ds

-- the variable of a macro is declared before all others
abbrev pub with_variable : List ℕ → CelType → Decls → Decls
with_variable name t ds = record { name = name; of = t } ∷ ds

-- ---- what the rules ask of the types of parts

-- `e.field` and `has(e.field)` of a map, or of what isn't known
pub data Selects : CelType → CelType → Type 0 where
  of_map : (t : CelType) → Selects (types.Map t) t
  of_dyn : Selects CelType.Dyn CelType.Dyn

-- `e[i]`: a list by a number, a map by a text, and what isn't known by either
pub data Indexes : CelType → CelType → CelType → Type 0 where
  at_number : {u : CelType} (t : CelType) → fits u CelType.Int ≡ true → Indexes (types.List t) u t
  at_key : {u : CelType} (t : CelType) → fits u CelType.Text ≡ true → Indexes (types.Map t) u t
  dyn_at_number : {u : CelType} → fits u CelType.Int ≡ true → Indexes CelType.Dyn u CelType.Dyn
  dyn_at_key : {u : CelType} → fits u CelType.Text ≡ true → Indexes CelType.Dyn u CelType.Dyn

-- `in`: anything in a list or in what isn't known, and a text in a map
pub data LiesIn : CelType → CelType → Type 0 where
  in_list : {u : CelType} (t : CelType) → LiesIn u (types.List t)
  in_map : {u : CelType} (t : CelType) → fits u CelType.Text ≡ true → LiesIn u (types.Map t)
  in_dyn : {u : CelType} → LiesIn u CelType.Dyn

-- the function of the overload table that an operator is
abbrev pub table_function : BinaryOp → Option Function
table_function op.Lt = Some Function.Lt
table_function op.Le = Some Function.Le
table_function op.Gt = Some Function.Gt
table_function op.Ge = Some Function.Ge
table_function op.Add = Some Function.Add
table_function op.Sub = Some Function.Sub
table_function op.Mul = Some Function.Mul
table_function op.Div = Some Function.Div
table_function op.Rem = Some Function.Rem
table_function op.Or = None
table_function op.And = None
table_function op.Eq = None
table_function op.Ne = None
table_function op.Within = None

-- an operator of two operands
pub data Combines : BinaryOp → CelType → CelType → CelType → Type 0 where
  by_and : {t u : CelType} → fits t CelType.Bool ≡ true → fits u CelType.Bool ≡ true → Combines BinaryOp.And t u CelType.Bool
  by_or : {t u : CelType} → fits t CelType.Bool ≡ true → fits u CelType.Bool ≡ true → Combines BinaryOp.Or t u CelType.Bool
  by_equal : {t u : CelType} → fits t u ≡ true → Combines BinaryOp.Eq t u CelType.Bool
  by_unequal : {t u : CelType} → fits t u ≡ true → Combines BinaryOp.Ne t u CelType.Bool
  by_within : {t u : CelType} → LiesIn t u → Combines BinaryOp.Within t u CelType.Bool
  by_table : {operator : BinaryOp} {f : Function} {t u v : CelType} → table_function operator ≡ Some f → two_type f t u ≡ Some v → Combines operator t u v

-- what a macro's variable is, over a range of this type
pub data Ranges : CelType → CelType → Type 0 where
  over_list : (t : CelType) → Ranges (types.List t) t
  over_map : (t : CelType) → Ranges (types.Map t) CelType.Text
  over_dyn : Ranges CelType.Dyn CelType.Dyn

-- what a macro gives, by the types of its variable and of its last argument
pub data Gathers : MacroKind → CelType → CelType → CelType → Type 0 where
  by_all : {t u : CelType} → fits u CelType.Bool ≡ true → Gathers MacroKind.All t u CelType.Bool
  by_exists : {t u : CelType} → fits u CelType.Bool ≡ true → Gathers MacroKind.Exists t u CelType.Bool
  by_exists_one : {t u : CelType} → fits u CelType.Bool ≡ true → Gathers MacroKind.ExistsOne t u CelType.Bool
  by_filter : {t u : CelType} → fits u CelType.Bool ≡ true → Gathers MacroKind.Filter t u (types.List t)
  by_map : {t u : CelType} → Gathers MacroKind.Map t u (types.List u)

-- the target of a member call is its first argument
abbrev pub arguments : {A : Type 0} → Option A → List A → List A
arguments None items = items
arguments (Some target) items = target ∷ items

-- a call is of a member where it has a target
abbrev pub is_member : {A : Type 0} → Option A → Bool
is_member None = false
is_member (Some target) = true

-- ---- the relation

mutual
  -- The expression has the type under these declarations, each node's type being one that is allowed.
  pub data Typed (allowed : CelType → Type 0) : Decls → Expr → CelType → Type 0 where
    null : {d : Decls} → allowed CelType.Null → Typed allowed d Expr.Null CelType.Null
    bool : {d : Decls} {b : Bool} → allowed CelType.Bool → Typed allowed d (Expr.Bool b) CelType.Bool
    int : {d : Decls} {z : ℤ} → allowed CelType.Int → Typed allowed d (Expr.Int z) CelType.Int
    text : {d : Decls} {s : List ℕ} → allowed CelType.Text → Typed allowed d (Expr.Text s) CelType.Text
    name : {d : Decls} {n : List ℕ} {t : CelType} → declared n d ≡ Some t → allowed t → Typed allowed d (Expr.Name n) t
    list : {d : Decls} {es : List Expr} {ts : List CelType} → AllTyped allowed d es ts → allowed (types.List (join_all ts))
        → Typed allowed d (expr.List es) (types.List (join_all ts))
    literal_map : {d : Decls} {ps : List MapPair} {ks ts : List CelType} → PairsTyped allowed d ps ks ts → all_fit CelType.Text ks ≡ true
        → allowed (types.Map (join_all ts)) → Typed allowed d (expr.Map ps) (types.Map (join_all ts))
    select : {d : Decls} {e : Expr} {r t : CelType} (field : List ℕ) → Typed allowed d e r → Selects r t → allowed t → Typed allowed d (expr.Select e field) t
    has : {d : Decls} {e : Expr} {r t : CelType} (field : List ℕ) → Typed allowed d e r → Selects r t → allowed CelType.Bool
        → Typed allowed d (expr.Has e field) CelType.Bool
    index : {d : Decls} {e i : Expr} {r u t : CelType} → Typed allowed d e r → Typed allowed d i u → Indexes r u t → allowed t → Typed allowed d (expr.Index e i) t
    call : {d : Decls} {ts : List CelType} {f : Function} {t : CelType} (target : Option Expr) (n : List ℕ) (es : List Expr)
        → AllTyped allowed d (arguments target es) ts → function_of (is_member target) n ≡ Some f → function_type f ts ≡ Some t → allowed t
        → Typed allowed d (expr.Call target n es) t
    not : {d : Decls} {e : Expr} {t u : CelType} → Typed allowed d e t → one_type Function.Not t ≡ Some u → allowed u → Typed allowed d (expr.Not e) u
    neg : {d : Decls} {e : Expr} {t u : CelType} → Typed allowed d e t → one_type Function.Neg t ≡ Some u → allowed u → Typed allowed d (expr.Neg e) u
    binary : {d : Decls} {operator : BinaryOp} {a b : Expr} {t u v : CelType} → Typed allowed d a t → Typed allowed d b u → Combines operator t u v → allowed v
        → Typed allowed d (expr.Binary operator a b) v
    choice : {d : Decls} {c a b : Expr} {r t u : CelType} → Typed allowed d c r → fits r CelType.Bool ≡ true → Typed allowed d a t → Typed allowed d b u
        → fits t u ≡ true → allowed (join t u) → Typed allowed d (expr.Cond c a b) (join t u)
    over : {d : Decls} {kind : MacroKind} {n : List ℕ} {range p : Expr} {r t u v : CelType} → Typed allowed d range r → Ranges r t
        → Typed allowed (with_variable n t d) p u → Gathers kind t u v → allowed v → Typed allowed d (expr.Macro kind range n None p) v
    over_tested : {d : Decls} {kind : MacroKind} {n : List ℕ} {range test p : Expr} {r t s u v : CelType} → Typed allowed d range r → Ranges r t
        → Typed allowed (with_variable n t d) test s → fits s CelType.Bool ≡ true → Typed allowed (with_variable n t d) p u → Gathers kind t u v → allowed v
        → Typed allowed d (expr.Macro kind range n (Some test) p) v

  -- Each expression has its type.
  pub data AllTyped (allowed : CelType → Type 0) : Decls → List Expr → List CelType → Type 0 where
    no_items : {d : Decls} → AllTyped allowed d [] []
    item : {d : Decls} {e : Expr} {es : List Expr} {t : CelType} {ts : List CelType} → Typed allowed d e t → AllTyped allowed d es ts
        → AllTyped allowed d (e ∷ es) (t ∷ ts)

  -- Each key and each value of a map literal has its type.
  pub data PairsTyped (allowed : CelType → Type 0) : Decls → List MapPair → List CelType → List CelType → Type 0 where
    no_pairs : {d : Decls} → PairsTyped allowed d [] [] []
    pair : {d : Decls} (p : MapPair) {ps : List MapPair} {k t : CelType} {ks ts : List CelType} → Typed allowed d p.key k → Typed allowed d p.value t
        → PairsTyped allowed d ps ks ts → PairsTyped allowed d (p ∷ ps) (k ∷ ks) (t ∷ ts)

-- any type is allowed
abbrev pub IsAny : CelType → Type 0
IsAny t = ⊤

-- the expression has the type under these declarations
abbrev pub HasType : Decls → Expr → CelType → Type 0
HasType = Typed IsAny
