-- The text that a tree is printed as: brackets stand where the grammar needs them, and around an integer behind a sign.
use Rattle.std.specs.Prelude.{ℕ, ℤ, ◌+◌, pos, negsuc, List, [], ◌∷◌, ◌++◌, Bool, true, false, nat_le, Option, Some, None, codes}
use Rattle.std.specs.Fmt.{signed_decimal}
use Rattle.cel_values.specs.declared.expr.BinaryOp.{BinaryOp}
use Rattle.cel_values.specs.declared.expr.MacroKind.{MacroKind}
use Rattle.cel_values.specs.declared.expr.Expr.{Expr, fold-Expr}
use Rattle.cel_values.specs.declared.expr.Expr.TheOpen.{Expr-F, MapPair-F}
use Rattle.cel_values.specs.declared.expr.MapPair.{MapPair}
use Rattle.cel_tokens.specs.Spelling.{operator, quoted}
use Rattle.cel_grammar.specs.Grammar.{strength}

-- ---- the words

-- the name of a macro
abbrev pub macro_name : MacroKind → List ℕ
macro_name MacroKind.All = codes "all"
macro_name MacroKind.Exists = codes "exists"
macro_name MacroKind.ExistsOne = codes "exists_one"
macro_name MacroKind.Filter = codes "filter"
macro_name MacroKind.Map = codes "map"

-- `true` or `false`
abbrev pub boolean : Bool → List ℕ
boolean true = codes "true"
boolean false = codes "false"

-- ---- the forms

-- the form in which a tree is printed
pub data Form : Type 0 where
  choice : Form
  -- of this strength
  binary : ℕ → Form
  inverse : Form
  negative : Form
  -- an integer, without and behind a sign
  integer : Form
  signed : Form
  -- every other member
  member : Form

-- the grammar's level of a form: expr is level 0, or 1, and 2, rel 3, add 4, mul 5, unary 6, member 7
abbrev pub level : Form → ℕ
level choice = 0
level (binary n) = n
level inverse = 6
level negative = 6
level signed = 6
level integer = 7
level member = 7

-- what stands behind `!` without brackets
abbrev pub may_be_inverted : Form → Bool
may_be_inverted inverse = true
may_be_inverted form = nat_le 7 (level form)

-- what stands behind `-` without brackets
abbrev pub may_be_negated : Form → Bool
may_be_negated negative = true
may_be_negated member = true
may_be_negated form = false

-- a tree's form and text
pub record Printed : Type 0 where
  pub form : Form
  pub text : List ℕ

-- a text in parentheses
abbrev pub grouped : List ℕ → List ℕ
grouped text = codes "(" ++ (text ++ codes ")")

-- a text in parentheses, where it needs them
abbrev pub grouped_unless : Bool → List ℕ → List ℕ
grouped_unless true text = text
grouped_unless false text = grouped text

-- where a form of this level or a stronger one may stand
abbrev pub at_level : ℕ → Printed → List ℕ
at_level n p = grouped_unless (nat_le n (level p.form)) p.text

-- printed trees with a comma and a space between them
abbrev pub listed : List Printed → List ℕ
listed [] = []
listed (p ∷ []) = p.text
listed (p ∷ q ∷ ps) = p.text ++ (codes ", " ++ listed (q ∷ ps))

-- texts with a comma and a space between them
abbrev pub texts_listed : List (List ℕ) → List ℕ
texts_listed [] = []
texts_listed (text ∷ []) = text
texts_listed (text ∷ next ∷ texts) = text ++ (codes ", " ++ texts_listed (next ∷ texts))

-- a name with its arguments
abbrev pub called : List ℕ → List Printed → List ℕ
called name items = name ++ (codes "(" ++ (listed items ++ codes ")"))

-- what stands behind a dot, with its target before it
abbrev pub method : Printed → List ℕ → List ℕ
method target rest = at_level 7 target ++ (codes "." ++ rest)

-- a call of a function or of a method
abbrev pub call : Option Printed → List ℕ → List Printed → List ℕ
call None name items = called name items
call (Some target) name items = method target (called name items)

-- a text that needs no parentheses anywhere
abbrev pub whole : List ℕ → Printed
whole text = record { form = member; text = text }

-- the arguments of a macro
abbrev pub macro_items : List ℕ → Option Printed → Printed → List Printed
macro_items variable None value = whole variable ∷ value ∷ []
macro_items variable (Some test) value = whole variable ∷ test ∷ value ∷ []

-- behind a macro's variable
abbrev pub tested : Option Printed → List ℕ
tested None = []
tested (Some test) = codes ", " ++ test.text

-- a negative integer has a sign
abbrev pub integer_form : ℤ → Form
integer_form (pos n) = integer
integer_form (negsuc n) = signed

-- an operator between its operands, a space on each side; operators of one strength group to the left
abbrev pub printed_binary : BinaryOp → Printed → Printed → Printed
printed_binary op a b = record {
  form = binary (strength op);
  text = at_level (strength op) a ++ (codes " " ++ (operator op ++ (codes " " ++ at_level (strength op + 1) b)));
}

-- a condition with its branches
abbrev pub printed_choice : Printed → Printed → Printed → Printed
printed_choice c a b = record { form = choice; text = at_level 1 c ++ (codes " ? " ++ (at_level 1 a ++ (codes " : " ++ b.text))) }

-- the form and the text of each tree, by those of its parts
abbrev pub print_step : Expr-F Printed (List ℕ) → Printed
print_step Expr-F.Null = whole (codes "null")
print_step (Expr-F.Bool b) = whole (boolean b)
print_step (Expr-F.Int z) = record { form = integer_form z; text = signed_decimal z }
print_step (Expr-F.Text t) = whole (quoted t)
print_step (Expr-F.Name n) = whole n
print_step (Expr-F.List items) = whole (codes "[" ++ (listed items ++ codes "]"))
print_step (Expr-F.Map pairs) = whole (codes "{" ++ (texts_listed pairs ++ codes "}"))
print_step (Expr-F.Select e field) = whole (method e field)
print_step (Expr-F.Has e field) = whole (codes "has(" ++ (method e field ++ codes ")"))
print_step (Expr-F.Index e i) = whole (at_level 7 e ++ (codes "[" ++ (i.text ++ codes "]")))
print_step (Expr-F.Call target name items) = whole (call target name items)
print_step (Expr-F.Not e) = record { form = inverse; text = codes "!" ++ grouped_unless (may_be_inverted e.form) e.text }
print_step (Expr-F.Neg e) = record { form = negative; text = codes "-" ++ grouped_unless (may_be_negated e.form) e.text }
print_step (Expr-F.Binary op a b) = printed_binary op a b
print_step (Expr-F.Cond c a b) = printed_choice c a b
print_step (Expr-F.Macro kind range variable test value) = whole (method range (called (macro_name kind) (macro_items variable test value)))

-- a pair of a map literal
abbrev pub pair_step : MapPair-F Printed (List ℕ) → List ℕ
pair_step pair = pair.key.text ++ (codes ": " ++ pair.value.text)

-- the form and the text of a tree
abbrev pub printed : Expr → Printed
printed = fold-Expr Printed (List ℕ) print_step pair_step

-- the text of a pair of a map literal
abbrev pub pair_printed : MapPair → List ℕ
pair_printed pair = (printed pair.key).text ++ (codes ": " ++ (printed pair.value).text)

-- the text that a tree is printed as
unfoldable pub printed_text : Expr → List ℕ
printed_text e = (printed e).text
