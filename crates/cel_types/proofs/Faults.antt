-- A fault of a node's own rule is at the node.
use Rattle.std.proofs.Common.{◌≡◌, ℕ, Bool, true, false, ◌&&◌, List, ◌⊎◌, inl, inr, Ok, Err, cond}
use Rattle.base_types.specs.Steps.{needed}
use Rattle.cel_values.specs.declared.expr.BinaryOp.{BinaryOp}
use Rattle.cel_values.specs.declared.expr.BinaryOp.TheVariants as op
use Rattle.cel_values.specs.declared.expr.MacroKind.{MacroKind}
use Rattle.cel_builtins.specs.declared.function.Function.{Function}
use Rattle.cel_builtins.specs.Overloads.{function_of}
use Rattle.cel_types.specs.declared.cel_type.CelType.{CelType, out-CelType}
use Rattle.cel_types.specs.declared.cel_type.CelType.TheOpen.{CelType-F}
use Rattle.cel_types.specs.declared.cel_type.CelType.TheViews as types
use Rattle.cel_types.specs.declared.fault.TypeFault.{TypeFault}
use Rattle.cel_types.specs.declared.fault.TypeRule.{TypeRule}
use Rattle.cel_types.specs.Types.{fits, all_fit}
use Rattle.cel_types.specs.Rows.{two_type, function_type}
use Rattle.cel_types.specs.Typing.{broken, where_fits, selected_type, presence_type, index_type, within_type, operator_type, choice_type, call_type}
use Rattle.cel_types.specs.Typing.{literal_map_type, variable_type, gathered_type}
use Rattle.cel_types.proofs.Answered.{no_fault, same_fault, from_fault, test_fault, needed_fault}

pub fits_fault : (at : ℕ) (u wanted t : CelType) (f : TypeFault) → where_fits at u wanted t ≡ Err f → f ≡ broken at TypeRule.T3
fits_fault at u wanted t f h = test_fault (fits u wanted) t _ f h

pub selected_fault : (at : ℕ) (x : CelType-F CelType) (f : TypeFault) → selected_type at x ≡ Err f → f ≡ broken at TypeRule.T3
selected_fault at (CelType-F.Map t) f h = no_fault t f h
selected_fault at CelType-F.Dyn f h = no_fault CelType.Dyn f h
selected_fault at _ f h = same_fault _ f h

pub presence_fault : (at : ℕ) (x : CelType-F CelType) (f : TypeFault) → presence_type at x ≡ Err f → f ≡ broken at TypeRule.T3
presence_fault at x f h = from_fault (selected_type at x) _ f h (λ k. selected_fault at x f k) (λ t is k. no_fault CelType.Bool f k)

dyn_fault : (at : ℕ) (u : CelType) (b : Bool) (f : TypeFault) → cond b (Ok CelType.Dyn) (where_fits at u CelType.Text CelType.Dyn) ≡ Err f
    → f ≡ broken at TypeRule.T3
dyn_fault at u true f h = no_fault CelType.Dyn f h
dyn_fault at u false f h = fits_fault at u CelType.Text CelType.Dyn f h

pub index_fault : (at : ℕ) (x : CelType-F CelType) (u : CelType) (f : TypeFault) → index_type at x u ≡ Err f → f ≡ broken at TypeRule.T3
index_fault at (CelType-F.List t) u f h = fits_fault at u CelType.Int t f h
index_fault at (CelType-F.Map t) u f h = fits_fault at u CelType.Text t f h
index_fault at CelType-F.Dyn u f h = dyn_fault at u (fits u CelType.Int) f h
index_fault at _ u f h = same_fault _ f h

within_fault : (at : ℕ) (u : CelType) (x : CelType-F CelType) (f : TypeFault) → within_type at u x ≡ Err f → f ≡ broken at TypeRule.T3
within_fault at u (CelType-F.List t) f h = no_fault CelType.Bool f h
within_fault at u (CelType-F.Map t) f h = fits_fault at u CelType.Text CelType.Bool f h
within_fault at u CelType-F.Dyn f h = no_fault CelType.Bool f h
within_fault at u _ f h = same_fault _ f h

pub operator_fault : (operator : BinaryOp) (at : ℕ) (t u : CelType) (f : TypeFault) → operator_type operator at t u ≡ Err f → f ≡ broken at TypeRule.T3
operator_fault op.And at t u f h = test_fault (fits t CelType.Bool && fits u CelType.Bool) CelType.Bool _ f h
operator_fault op.Or at t u f h = test_fault (fits t CelType.Bool && fits u CelType.Bool) CelType.Bool _ f h
operator_fault op.Eq at t u f h = fits_fault at t u CelType.Bool f h
operator_fault op.Ne at t u f h = fits_fault at t u CelType.Bool f h
operator_fault op.Within at t u f h = within_fault at t (out-CelType u) f h
operator_fault op.Lt at t u f h = needed_fault (two_type Function.Lt t u) _ f h
operator_fault op.Le at t u f h = needed_fault (two_type Function.Le t u) _ f h
operator_fault op.Gt at t u f h = needed_fault (two_type Function.Gt t u) _ f h
operator_fault op.Ge at t u f h = needed_fault (two_type Function.Ge t u) _ f h
operator_fault op.Add at t u f h = needed_fault (two_type Function.Add t u) _ f h
operator_fault op.Sub at t u f h = needed_fault (two_type Function.Sub t u) _ f h
operator_fault op.Mul at t u f h = needed_fault (two_type Function.Mul t u) _ f h
operator_fault op.Div at t u f h = needed_fault (two_type Function.Div t u) _ f h
operator_fault op.Rem at t u f h = needed_fault (two_type Function.Rem t u) _ f h

pub choice_fault : (at : ℕ) (r t u : CelType) (f : TypeFault) → choice_type at r t u ≡ Err f → f ≡ broken at TypeRule.T3
choice_fault at r t u f h = test_fault (fits r CelType.Bool && fits t u) _ _ f h

pub call_fault : (at : ℕ) (member : Bool) (n : List ℕ) (ts : List CelType) (f : TypeFault) → call_type at member n ts ≡ Err f
    → (f ≡ broken at TypeRule.T2) ⊎ (f ≡ broken at TypeRule.T3)
call_fault at member n ts f h =
    from_fault (needed (broken at TypeRule.T2) (function_of member n)) _ f h (λ k. inl (needed_fault (function_of member n) _ f k))
    (λ g is k. inr (needed_fault (function_type g ts) _ f k))

pub literal_map_fault : (at : ℕ) (qs : List (CelType × CelType)) (f : TypeFault) → literal_map_type at qs ≡ Err f → f ≡ broken at TypeRule.T3
literal_map_fault at qs f h = test_fault (all_fit CelType.Text _) _ _ f h

pub variable_fault : (at : ℕ) (x : CelType-F CelType) (f : TypeFault) → variable_type at x ≡ Err f → f ≡ broken at TypeRule.T3
variable_fault at (CelType-F.List t) f h = no_fault t f h
variable_fault at (CelType-F.Map t) f h = no_fault CelType.Text f h
variable_fault at CelType-F.Dyn f h = no_fault CelType.Dyn f h
variable_fault at _ f h = same_fault _ f h

pub gathered_fault : (kind : MacroKind) (at : ℕ) (t u : CelType) (f : TypeFault) → gathered_type kind at t u ≡ Err f → f ≡ broken at TypeRule.T3
gathered_fault MacroKind.All at t u f h = fits_fault at u CelType.Bool CelType.Bool f h
gathered_fault MacroKind.Exists at t u f h = fits_fault at u CelType.Bool CelType.Bool f h
gathered_fault MacroKind.ExistsOne at t u f h = fits_fault at u CelType.Bool CelType.Bool f h
gathered_fault MacroKind.Filter at t u f h = fits_fault at u CelType.Bool (types.List t) f h
gathered_fault MacroKind.Map at t u f h = no_fault _ f h
