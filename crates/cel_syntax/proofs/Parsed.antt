-- What a text leads to, from its tree of ordinary calls.
use Rattle.std.proofs.Common.{◌≡◌, ℕ, List, [], ◌∷◌, None, Result, Ok, Err, IfOk, IfErr, inl, inr, refl, sym, ap, ◌∙◌}
use Rattle.cel_values.specs.declared.expr.Expr.{Expr}
use Rattle.cel_grammar.specs.declared.draft.Draft.{Draft}
use Rattle.cel_syntax.specs.declared.macro_faults.MacroFault.{MacroFault}
use Rattle.cel_grammar.specs.declared.error.ParseError.{ParseError}
use Rattle.cel_grammar.specs.declared.error.ParseError.TheVariants.{Fault, Memory}
use Rattle.cel_grammar.specs.Faults.{SpellsDraft, HasNoFault, IsErrorOf}
use Rattle.cel_syntax.specs.Macros.{expanded}
use Rattle.cel_syntax.specs.MacroFaults.{NoFormFault, faults_of, first_macro_fault}
use Rattle.cel_syntax.specs.Parse.{Spells, HasNoSyntaxFault, IsSyntaxError, IsExprOf, Finishes}
use Rattle.cel_grammar.proofs.Placed.{one_draft}

pub none_first : (fs : List MacroFault) → first_macro_fault fs ≡ None → fs ≡ []
none_first [] h = refl
none_first (f ∷ fs) h = cc

no_form_fault : (fs : List MacroFault) → fs ≡ [] → NoFormFault fs
no_form_fault [] h = tt
no_form_fault (f ∷ fs) h = cc

pub found_by : (text : List ℕ) (d : Draft) (r : Result Expr ParseError) → SpellsDraft text d × HasNoFault text → Finishes r d → IfOk r (λ x. Spells text x × HasNoSyntaxFault text)
found_by text d (Ok x) s f = ((d, s.0, no_form_fault (faults_of d) f.0, f.1), (s.1, λ e spelt. ap faults_of (one_draft text e d spelt s.0) ∙ f.0))
found_by text d (Err e) s f = tt

pub one_expr : (text : List ℕ) (a b : Expr) → Spells text a → Spells text b → a ≡ b
one_expr text a b sa sb = sa.3 ∙ ap expanded (one_draft text sa.0 sb.0 sa.1 sb.1) ∙ sym sb.3

pub only_by : (text : List ℕ) (d : Draft) (r : Result Expr ParseError) → SpellsDraft text d × HasNoFault text → Finishes r d → (x : Expr) → Spells text x → HasNoSyntaxFault text → IsExprOf x r
only_by text d (Ok y) s f x spells none = one_expr text y x (d, s.0, no_form_fault (faults_of d) f.0, f.1) spells
only_by text d (Err Memory) s f x spells none = tt
only_by text d (Err (Fault at rule)) s f x spells none =
    let no = sym f ∙ ap first_macro_fault (none.1 d s.0) in
    cc

pub error_by : (text : List ℕ) (d : Draft) (r : Result Expr ParseError) → SpellsDraft text d × HasNoFault text → Finishes r d → IfErr r (IsSyntaxError text)
error_by text d (Ok y) s f = tt
error_by text d (Err Memory) s f = tt
error_by text d (Err (Fault at rule)) s f = inr (s.1, d, s.0, f)

pub error_kept : (text : List ℕ) (e : ParseError) → IsErrorOf text e → IsSyntaxError text e
error_kept text Memory h = tt
error_kept text (Fault at rule) h = inl h

pub only_kept : (text : List ℕ) (e : ParseError) → IsErrorOf text e → (x : Expr) → Spells text x → HasNoSyntaxFault text → IsExprOf x (Err e)
only_kept text Memory h x spells none = tt
only_kept text (Fault at rule) h x spells none = none.0 rule at h.fault
