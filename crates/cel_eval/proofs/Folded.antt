-- The first error stands until an item decides.
use Rattle.std.proofs.Common.{◌≡◌, ◌<◌, ℕ, List, Bool, true, false, Option, None, Some, Ok, Err, map, drop, length, get_or, drop-cons, refl}
use Rattle.cel_values.specs.declared.value.Value.{Value}
use Rattle.cel_values.specs.declared.error.EvalError.{EvalError}
use Rattle.cel_builtins.specs.Outcomes.{Or}
use Rattle.cel_eval.specs.Denotation.{both, either, gathered}
use Rattle.cel_eval.specs.Errors.{earlier, unless_error}

pub both_kept : (first : Option EvalError) (e : EvalError) (rest : Or Bool) → both (unless_error (earlier first e) true) rest ≡ both (unless_error first true) (both (Err e) rest)
both_kept None e rest = refl
both_kept (Some d) e (Ok true) = refl
both_kept (Some d) e (Ok false) = refl
both_kept (Some d) e (Err x) = refl

pub both_false : (first : Option EvalError) → both (unless_error first true) (Ok false) ≡ Ok false
both_false None = refl
both_false (Some d) = refl

pub both_end : (first : Option EvalError) → both (unless_error first true) (Ok true) ≡ unless_error first true
both_end None = refl
both_end (Some d) = refl

pub either_kept : (first : Option EvalError) (e : EvalError) (rest : Or Bool) → either (unless_error (earlier first e) false) rest ≡ either (unless_error first false) (either (Err e) rest)
either_kept None e rest = refl
either_kept (Some d) e (Ok true) = refl
either_kept (Some d) e (Ok false) = refl
either_kept (Some d) e (Err x) = refl

pub either_true : (first : Option EvalError) → either (unless_error first false) (Ok true) ≡ Ok true
either_true None = refl
either_true (Some d) = refl

pub either_end : (first : Option EvalError) → either (unless_error first false) (Ok false) ≡ unless_error first false
either_end None = refl
either_end (Some d) = refl

-- the first error among lists that are gathered
pub gathered_error : (f : Value → Or (List Value)) (items : List Value) (i : ℕ) (d : Value) (e : EvalError) → i < length items → f (get_or items i d) ≡ Err e → gathered (map f (drop i items)) ≡ Err e
gathered_error f items i d e h is = rw (drop-cons items i d, is) refl
