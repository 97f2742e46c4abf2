-- The tree of a text, as a function.
use Rattle.std.specs.Prelude.{ℕ, List, [], ◌∷◌, length, Bool, false, nat_lt, if◌then◌else◌, Option, Some, None, Result, Ok, Err}
use Rattle.cel_values.specs.declared.expr.Expr.{Expr}
use Rattle.cel_grammar.specs.declared.draft.Draft.{Draft}
use Rattle.cel_grammar.specs.declared.error.SyntaxRule.{SyntaxRule}
use Rattle.cel_grammar.specs.Answer.{answer}
use Rattle.cel_grammar.specs.Faults.{kinds}
use Rattle.cel_grammar.specs.Machine.{start}
use Rattle.cel_grammar.specs.Walk.{walk}
use Rattle.cel_syntax.specs.declared.macro_faults.MacroFault.{MacroFault}
use Rattle.cel_syntax.specs.Macros.{expanded}
use Rattle.cel_syntax.specs.MacroFaults.{faults_of}
use Rattle.cel_reader.specs.Lexed.{Words, words_of}

-- a tree of ordinary calls, or the place and the rule of the first fault
abbrev pub OrFirstFault : Type 0
OrFirstFault = Result Draft (ℕ × SyntaxRule)

-- the tree of the words of a text of this size
abbrev pub read_words : ℕ → Words → OrFirstFault
read_words size words = answer words.0 words.1 size (walk (kinds words.0) start false 0 0)

-- the tree of a text, if it isn't too long
abbrev pub read_at_most : Bool → List ℕ → OrFirstFault
read_at_most too_long text = if too_long then Err (0, SyntaxRule.S6) else read_words (length text) (words_of text)

-- the tree of ordinary calls that a text spells, or its first fault
abbrev pub draft_of : List ℕ → OrFirstFault
draft_of text = read_at_most (nat_lt 4096 (length text)) text

-- the tree with its macros, where none of them has a fault
abbrev pub without_fault : Draft → List MacroFault → Option Expr
without_fault d [] = Some (expanded d)
without_fault d (f ∷ fs) = None

-- the expression of a tree of ordinary calls
abbrev pub tree_from : OrFirstFault → Option Expr
tree_from (Ok d) = without_fault d (faults_of d)
tree_from (Err fault) = None

-- the tree that a text spells without a fault
unfoldable pub tree_of : List ℕ → Option Expr
tree_of text = tree_from (draft_of text)
