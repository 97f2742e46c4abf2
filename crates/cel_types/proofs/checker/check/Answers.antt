use Rattle.cel_types.proofs.Checked.{typed_result, no_type, at_first}
use Rattle.cel_types.proofs.checker.check.Goals as goal

pub returns-clause-typed : goal.returns-clause-typed
returns-clause-typed c = typed_result _ _ _ (at_first _ _ _ _ c.new.ensures c.check_in.ensures.type_of)

pub returns-clause-untyped : goal.returns-clause-untyped
returns-clause-untyped c = λ f t is of_type. no_type _ _ _ f t (at_first _ _ _ _ c.new.ensures c.check_in.ensures.type_of) is of_type
