-- The expression of a text is what it spells, of a type that fits.
use Rattle.std.proofs.Common.{◌≡◌, ℕ, List, Bool, true, false, Option, Some, None, Ok, Err, refl, sym, ap, ◌∙◌, subst, cond}
use Rattle.cel_values.specs.declared.expr.Expr.{Expr}
use Rattle.cel_expression.specs.declared.expression.Expression.{Expression}
use Rattle.cel_types.specs.declared.cel_type.CelType.{CelType}
use Rattle.cel_types.specs.Rules.{Decls, HasType}
use Rattle.cel_types.specs.Types.{fits}
use Rattle.cel_types.specs.Typing.{OrFault, checked}
use Rattle.cel_types.proofs.Relation.{answers, follows}
use Rattle.cel_reader.specs.Trees.{tree_of}
use Rattle.cel_reader.specs.Expressions.{is_fitting, expression, typed_tree, expression_of, IsExpression}
use Rattle.cel_reader.proofs.TreesFound.{tree_found, tree_only}

-- a type by the rules that fits
record Fits (d : Decls) (wanted : CelType) (e : Expr) : Type 0 where
  of : CelType
  typed : HasType d e of
  fits : fits of wanted ≡ true

fits_by : (d : Decls) (wanted : CelType) (e : Expr) (r : OrFault CelType) → checked d e ≡ r → is_fitting wanted r ≡ true → Fits d wanted e
fits_by d wanted e (Ok t) is fit = record { of = t; typed = follows e d 0 t is; fits = fit }
fits_by d wanted e (Err f) is fit = cc

chosen : (text : List ℕ) (x : Expr) (e : Expression) (b : Bool) → cond b (Some (expression text x)) None ≡ Some e → (b ≡ true) × (expression text x ≡ e)
chosen text x e true is = (refl, cc)
chosen text x e false is = cc

from_tree : (d : Decls) (wanted : CelType) (text : List ℕ) (o : Option Expr) (e : Expression) → tree_of text ≡ o → typed_tree d wanted text o ≡ Some e → IsExpression d wanted text e
from_tree d wanted text None e read is = cc
from_tree d wanted text (Some x) e read is =
    let both = chosen text x e (is_fitting wanted (checked d x)) is in
    let of = fits_by d wanted x (checked d x) refl both.0 in
    let found = tree_found text x read in
    subst (IsExpression d wanted text) both.1
    (record { text = refl; spelled = found.0; faultless = found.1; of = of.of; typed = of.typed; fits = of.fits })

pub expression_found : (d : Decls) (wanted : CelType) (text : List ℕ) (e : Expression) → expression_of d wanted text ≡ Some e → IsExpression d wanted text e
expression_found d wanted text e is = from_tree d wanted text (tree_of text) e refl is

pub expression_only : (d : Decls) (wanted : CelType) (text : List ℕ) (e : Expression) → IsExpression d wanted text e → expression_of d wanted text ≡ Some e
expression_only d wanted text e h =
    ap (typed_tree d wanted text) (tree_only text e.tree h.spelled h.faultless)
    ∙ ap (λ r. cond (is_fitting wanted r) (Some (expression text e.tree)) None) (answers h.typed 0)
    ∙ ap (λ b. cond b (Some (expression text e.tree)) None) h.fits
    ∙ ap (λ t. Some (expression t e.tree)) (sym h.text)
