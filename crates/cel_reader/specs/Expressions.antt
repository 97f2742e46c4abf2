-- The expression of a text, as a function and by the grammar and the rules of types.
use Rattle.std.specs.Prelude.{◌≡◌, ℕ, List, Bool, true, false, if◌then◌else◌, Option, Some, None, Ok, Err}
use Rattle.cel_values.specs.declared.expr.Expr.{Expr}
use Rattle.cel_expression.specs.declared.expression.Expression.{Expression}
use Rattle.cel_types.specs.declared.cel_type.CelType.{CelType}
use Rattle.cel_types.specs.Rules.{Decls, HasType}
use Rattle.cel_types.specs.Types.{fits}
use Rattle.cel_types.specs.Typing.{OrFault, checked}
use Rattle.cel_syntax.specs.Parse.{Spells, HasNoSyntaxFault}
use Rattle.cel_reader.specs.Trees.{tree_of}

-- a type was found, and it fits the wanted one
abbrev pub is_fitting : CelType → OrFault CelType → Bool
is_fitting wanted (Ok t) = fits t wanted
is_fitting wanted (Err fault) = false

-- a text beside its tree
abbrev pub expression : List ℕ → Expr → Expression
expression text e = record { text = text; tree = e }

-- the expression of a text with this tree, where its type fits the wanted one
abbrev pub typed_tree : Decls → CelType → List ℕ → Option Expr → Option Expression
typed_tree declarations wanted text None = None
typed_tree declarations wanted text (Some e) = if is_fitting wanted (checked declarations e) then Some (expression text e) else None

-- the expression that a text spells without a fault, where its type fits the wanted one
abbrev pub expression_of : Decls → CelType → List ℕ → Option Expression
expression_of declarations wanted text = typed_tree declarations wanted text (tree_of text)

-- the same, by the grammar and the rules of types
pub record IsExpression (declarations : Decls) (wanted : CelType) (given : List ℕ) (e : Expression) : Type 0 where
  pub text : e.text ≡ given
  pub spelled : Spells given e.tree
  pub faultless : HasNoSyntaxFault given
  pub of : CelType
  pub typed : HasType declarations e.tree of
  pub fits : fits of wanted ≡ true
