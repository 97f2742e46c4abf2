-- What the answer of a check says by the rules.
use Rattle.std.proofs.Common.{◌≡◌, ◌++◌, [], Result, Ok, Err, IfOk, reverse, subst}
use Rattle.cel_values.specs.declared.expr.Expr.{Expr}
use Rattle.cel_types.specs.declared.cel_type.CelType.{CelType}
use Rattle.cel_types.specs.declared.fault.TypeFault.{TypeFault}
use Rattle.cel_types.specs.declared.fault.CheckError.{CheckError}
use Rattle.cel_types.specs.declared.fault.CheckError.TheVariants as error
use Rattle.cel_types.specs.Rules.{Decls, HasType}
use Rattle.cel_types.specs.Typing.{Gives, checked, typing}
use Rattle.cel_types.proofs.Relation.{follows, none_at_fault}

pub typed_result : (r : Result CelType CheckError) (d : Decls) (e : Expr) → Gives r (checked d e) → IfOk r (λ t. HasType d e t)
typed_result (Ok t) d e h = follows e d 0 t h
typed_result (Err f) d e h = tt

pub no_type : (r : Result CelType CheckError) (d : Decls) (e : Expr) (f : TypeFault) (t : CelType) → Gives r (checked d e) → r ≡ Err (error.Fault f) → HasType d e t → ⊥
no_type (Ok u) d e f t h is g = cc
no_type (Err error.Memory) d e f t h is g = cc
no_type (Err (error.Fault k)) d e f t h is g = none_at_fault d e t 0 k h g

-- nothing is declared before what is given
pub at_first : (r : Result CelType CheckError) (bound d : Decls) (e : Expr) → bound ≡ [] → Gives r ((typing e).of (reverse bound ++ d) 0) → Gives r (checked d e)
at_first r bound d e is h = subst (λ b. Gives r ((typing e).of (reverse b ++ d) 0)) is h
