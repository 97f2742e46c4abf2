-- What is found of each form, from what is found of its parts.
use Rattle.std.proofs.Common.{◌≡◌, ℕ, ◌+◌, List, map, Option, None, Some, Ok, refl, sym, ap, ◌∙◌}
use Rattle.base_types.specs.Steps.{◌>>=◌}
use Rattle.cel_values.specs.declared.expr.Expr.{Expr}
use Rattle.cel_values.specs.declared.expr.Expr.TheViews.{roll-Expr}
use Rattle.cel_values.specs.declared.expr.Expr.TheOpen.{Expr-F}
use Rattle.cel_values.specs.declared.expr.Expr.TheFolds.{fold-roll-Expr, fold-roll-MapPair, fold-MapPair, map-Expr}
use Rattle.cel_values.specs.declared.expr.MapPair.{MapPair}
use Rattle.cel_types.specs.declared.cel_type.CelType.{CelType}
use Rattle.cel_types.specs.Rules.{Decls, arguments, is_member}
use Rattle.cel_types.specs.Typing.{OrFault, Typing, all_of, call_type, typing_step, pair_step, typing}

-- a pair of a map literal
abbrev pub pair_typing : MapPair → Typing (CelType × CelType)
pair_typing p = fold-MapPair (Typing CelType) (Typing (CelType × CelType)) typing_step pair_step p

-- one layer, its parts' typings in place of the parts
abbrev pub seen : Expr-F Expr MapPair → Typing CelType
seen x = typing_step (map-Expr Expr MapPair (Typing CelType) (Typing (CelType × CelType)) typing pair_typing x)

pub opened : (x : Expr-F Expr MapPair) (d : Decls) (at : ℕ) → (typing (roll-Expr x)).of d at ≡ (seen x).of d at
opened x d at = ap (λ m. m.of d at) (fold-roll-Expr (Typing CelType) (Typing (CelType × CelType)) typing_step pair_step x)

-- the same where the form is written as in the rules
pub formed : (e : Expr) (x : Expr-F Expr MapPair) (d : Decls) (at : ℕ) → roll-Expr x ≡ e → (typing e).of d at ≡ (seen x).of d at
formed e x d at is = ap (λ z. (typing z).of d at) (sym is) ∙ opened x d at

abbrev pub pair_seen : MapPair → Decls → ℕ → OrFault (CelType × CelType)
pair_seen p d at = (typing p.key).of d at >>= λ k. (typing p.value).of d (at + (typing p.key).nodes) >>= λ t. Ok (k, t)

pub pair_opened : (p : MapPair) (d : Decls) (at : ℕ) → (pair_typing p).of d at ≡ pair_seen p d at
pair_opened p d at =
    ap (λ m. m.of d at) (fold-roll-MapPair (Typing CelType) (Typing (CelType × CelType)) typing_step pair_step (record { key = p.key; value = p.value }))

-- the parts of a call, as parts of one list
pub call_seen : (target : Option Expr) (n : List ℕ) (es : List Expr) (d : Decls) (at : ℕ)
    → (seen (Expr-F.Call target n es)).of d at ≡ (all_of (map typing (arguments target es)) d (at + 1) >>= λ ts. call_type at (is_member target) n ts)
call_seen None n es d at = refl
call_seen (Some e) n es d at = refl
