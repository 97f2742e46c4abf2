-- What a text spells, and its first fault.
use Rattle.std.specs.Prelude.{◌≡◌, ℕ, List, [], Some, Result, Ok, Err, ◌⊎◌}
use Rattle.cel_values.specs.declared.expr.Expr.{Expr}
use Rattle.cel_grammar.specs.declared.draft.Draft.{Draft}
use Rattle.cel_grammar.specs.declared.error.SyntaxRule.{SyntaxRule}
use Rattle.cel_grammar.specs.declared.error.ParseError.{ParseError}
use Rattle.cel_grammar.specs.declared.error.ParseError.TheVariants.{Fault, Memory}
use Rattle.cel_grammar.specs.Faults.{SpellsDraft, HasNoFault, IsFirstFault}
use Rattle.cel_syntax.specs.Macros.{expanded}
use Rattle.cel_syntax.specs.MacroFaults.{NoFormFault, faults_of, first_macro_fault}

-- the text spells the expression: a tree of ordinary calls in which each macro has its form, with its macros told apart
abbrev pub Spells : List ℕ → Expr → Type 0
Spells text x = (d : Draft) × SpellsDraft text d × NoFormFault (faults_of d) × (x ≡ expanded d)

-- each macro of the text has its form, and none stands too deep in others
abbrev pub HasNoMacroFault : List ℕ → Type 0
HasNoMacroFault text = (d : Draft) → SpellsDraft text d → faults_of d ≡ []

-- the text has no fault, of macros or other
abbrev pub HasNoSyntaxFault : List ℕ → Type 0
HasNoSyntaxFault text = HasNoFault text × HasNoMacroFault text

-- a text with no other fault has its first fault in a macro
abbrev pub IsMacroFault : List ℕ → SyntaxRule → ℕ → Type 0
IsMacroFault text rule at = HasNoFault text × (d : Draft) × SpellsDraft text d × (first_macro_fault (faults_of d) ≡ Some (record { at = at; rule = rule }))

-- the first fault of a text: those of macros are looked at where there is no other
abbrev pub IsFirstSyntaxFault : List ℕ → SyntaxRule → ℕ → Type 0
IsFirstSyntaxFault text rule at = IsFirstFault text rule at ⊎ IsMacroFault text rule at

-- what an error says of a text
abbrev pub IsSyntaxError : List ℕ → ParseError → Type 0
IsSyntaxError text Memory = Unit {0}
IsSyntaxError text (Fault at rule) = IsFirstSyntaxFault text rule at

-- what is read is this expression, unless memory ran out
abbrev pub IsExprOf : Expr → Result Expr ParseError → Type 0
IsExprOf x (Ok y) = y ≡ x
IsExprOf x (Err Memory) = Unit {0}
IsExprOf x (Err (Fault at rule)) = ⊥

-- what a tree of ordinary calls leads to
abbrev pub Finishes : Result Expr ParseError → Draft → Type 0
Finishes (Ok x) d = (faults_of d ≡ []) × (x ≡ expanded d)
Finishes (Err Memory) d = Unit {0}
Finishes (Err (Fault at rule)) d = first_macro_fault (faults_of d) ≡ Some (record { at = at; rule = rule })
