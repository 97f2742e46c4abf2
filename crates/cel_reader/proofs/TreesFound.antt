-- The tree that is found is what the text spells without a fault.
use Rattle.std.proofs.Common.{◌≡◌, ℕ, ◌≤◌, ◌<◌, List, [], ◌∷◌, length, Bool, true, false, nat_lt, Option, Some, None, Result, Ok, Err, refl, sym, ap, ◌∙◌, subst, arith}
use Rattle.std.proofs.lemmas.Bool.Decides.{nat_tests}
use Rattle.cel_values.specs.declared.expr.Expr.{Expr}
use Rattle.cel_grammar.specs.declared.draft.Draft.{Draft}
use Rattle.cel_grammar.specs.declared.error.SyntaxRule.{SyntaxRule}
use Rattle.cel_grammar.specs.declared.error.ParseError.{ParseError}
use Rattle.cel_grammar.specs.declared.error.ParseError.TheVariants.{Fault}
use Rattle.cel_grammar.specs.Faults.{kinds, SpellsDraft, HasNoFault, HasFault}
use Rattle.cel_grammar.specs.Machine.{start}
use Rattle.cel_grammar.specs.Walk.{walk}
use Rattle.cel_grammar.proofs.Placed.{found_of, error_of, long_first, one_draft}
use Rattle.cel_grammar.proofs.Walked.{whole_walk}
use Rattle.cel_syntax.specs.declared.macro_faults.MacroFault.{MacroFault}
use Rattle.cel_syntax.specs.Macros.{expanded}
use Rattle.cel_syntax.specs.MacroFaults.{faults_of}
use Rattle.cel_syntax.specs.Parse.{Spells, HasNoSyntaxFault, IsExprOf}
use Rattle.cel_syntax.proofs.Parsed.{found_by}
use Rattle.cel_reader.specs.Lexed.{words_of}
use Rattle.cel_reader.specs.Trees.{OrFirstFault, read_words, read_at_most, draft_of, without_fault, tree_from, tree_of}
use Rattle.cel_reader.proofs.WordsFound.{words_are}

not_long : (n : ℕ) → nat_lt 4096 n ≡ false → n ≤ 4096
not_long n h = grind (arith, nat_tests)

long : (n : ℕ) → nat_lt 4096 n ≡ true → 4096 < n
long n h = grind (arith, nat_tests)

-- ---- trees of ordinary calls

words_found : (text : List ℕ) (d : Draft) → length text ≤ 4096 → read_words (length text) (words_of text) ≡ Ok d → SpellsDraft text d × HasNoFault text
words_found text d short is =
    let ls = (words_of text).0 in
    found_of text ls (words_of text).1 (walk (kinds ls) start false 0 0) (Ok d) short (words_are text) (whole_walk (kinds ls)) is

words_fault : (text : List ℕ) (at : ℕ) (rule : SyntaxRule) → length text ≤ 4096 → read_words (length text) (words_of text) ≡ Err (at, rule) → HasFault text rule at
words_fault text at rule short is =
    let ls = (words_of text).0 in
    (error_of text ls (words_of text).1 (walk (kinds ls) start false 0 0) (Err (Fault at rule)) short (words_are text) (whole_walk (kinds ls)) is).fault

found_at : (text : List ℕ) (d : Draft) (b : Bool) → nat_lt 4096 (length text) ≡ b → read_at_most b text ≡ Ok d → SpellsDraft text d × HasNoFault text
found_at text d true size is = cc
found_at text d false size is = words_found text d (not_long (length text) size) is

fault_at : (text : List ℕ) (at : ℕ) (rule : SyntaxRule) (b : Bool) → nat_lt 4096 (length text) ≡ b → read_at_most b text ≡ Err (at, rule) → HasFault text rule at
fault_at text at rule true size is =
    let same : (0, SyntaxRule.S6) ≡ (at, rule) = cc in
    subst (λ (p : ℕ × SyntaxRule). HasFault text p.1 p.0) same (long_first text (long (length text) size)).fault
fault_at text at rule false size is = words_fault text at rule (not_long (length text) size) is

draft_found : (text : List ℕ) (d : Draft) → draft_of text ≡ Ok d → SpellsDraft text d × HasNoFault text
draft_found text d is = found_at text d (nat_lt 4096 (length text)) refl is

only_at : (text : List ℕ) (d : Draft) (r : OrFirstFault) → draft_of text ≡ r → SpellsDraft text d → HasNoFault text → draft_of text ≡ Ok d
only_at text d (Ok x) is spells none = is ∙ ap Ok (one_draft text x d (draft_found text x is).0 spells)
only_at text d (Err x) is spells none = absurd (none x.1 x.0 (fault_at text x.0 x.1 (nat_lt 4096 (length text)) refl is))

-- ---- expressions

free_found : (text : List ℕ) (d : Draft) (x : Expr) (fs : List MacroFault) → SpellsDraft text d × HasNoFault text → faults_of d ≡ fs → without_fault d fs ≡ Some x → Spells text x × HasNoSyntaxFault text
free_found text d x [] read none is = let same : x ≡ expanded d = cc in found_by text d (Ok x) read (none, same)
free_found text d x (f ∷ fs) read some is = cc

from_found : (text : List ℕ) (x : Expr) (r : OrFirstFault) → draft_of text ≡ r → tree_from r ≡ Some x → Spells text x × HasNoSyntaxFault text
from_found text x (Ok d) read is = free_found text d x (faults_of d) (draft_found text d read) refl is
from_found text x (Err f) read is = cc

-- what is found is spelled, by a text without a fault
pub tree_found : (text : List ℕ) (x : Expr) → tree_of text ≡ Some x → Spells text x × HasNoSyntaxFault text
unfolding tree_of
tree_found text x is = from_found text x (draft_of text) refl is

-- what a text without a fault spells is found
pub tree_only : (text : List ℕ) (x : Expr) → Spells text x → HasNoSyntaxFault text → tree_of text ≡ Some x
unfolding tree_of
tree_only text x spells none =
    let d : Draft = spells.0 in
    ap tree_from (only_at text d (draft_of text) refl spells.1 none.0) ∙ ap (without_fault d) (none.1 d spells.1) ∙ ap (λ y. Some y) (sym spells.3)

-- ---- what a parser's result says

no_tree : (text : List ℕ) (o : Option Expr) → tree_of text ≡ o → ((x : Expr) → Spells text x → HasNoSyntaxFault text → ⊥) → tree_of text ≡ None
no_tree text None is none = is
no_tree text (Some x) is none = let found = tree_found text x is in absurd (none x found.0 found.1)

-- a text with a fault has no tree
pub faulty_text : (text : List ℕ) (r : Result Expr ParseError) (at : ℕ) (rule : SyntaxRule) → r ≡ Err (Fault at rule) →
    ((x : Expr) → Spells text x → HasNoSyntaxFault text → IsExprOf x r) → tree_of text ≡ None
faulty_text text r at rule is only = no_tree text (tree_of text) refl (λ x spells none. subst (IsExprOf x) is (only x spells none))
