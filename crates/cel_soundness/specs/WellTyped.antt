-- Values of a type, environments that suit declarations, and evaluations that run well.
use Rattle.std.specs.Prelude.{◌≡◌, ℕ, ⊤, Bool, true, false, ◌&&◌, List, [], ◌∷◌, Some, Ok, Err}
use Rattle.cel_values.specs.declared.error.EvalError.{EvalError}
use Rattle.cel_values.specs.declared.error.EvalError.TheVariants as error
use Rattle.cel_values.specs.declared.value.Value.{Value, fold-Value}
use Rattle.cel_values.specs.declared.value.Value.TheOpen.{Value-F}
use Rattle.cel_builtins.specs.Outcomes.{Outcome}
use Rattle.cel_eval.specs.Denotation.{Env, named}
use Rattle.cel_types.specs.declared.cel_type.CelType.{CelType, out-CelType}
use Rattle.cel_types.specs.declared.cel_type.CelType.TheOpen.{CelType-F}
use Rattle.cel_types.specs.Rules.{Decls, declared}

-- each of them has the type
abbrev pub all_of_type : List (CelType → Bool) → CelType → Bool
all_of_type [] t = true
all_of_type (f ∷ fs) t = f t && all_of_type fs t

-- one layer of a value that has a type
abbrev pub of_type_step : Value-F (CelType → Bool) (CelType → Bool) → CelType-F CelType → Bool
of_type_step v CelType-F.Dyn = true
of_type_step Value-F.Null CelType-F.Null = true
of_type_step (Value-F.Bool b) CelType-F.Bool = true
of_type_step (Value-F.Int z) CelType-F.Int = true
of_type_step (Value-F.Text s) CelType-F.Text = true
of_type_step (Value-F.Time z) CelType-F.Time = true
of_type_step (Value-F.Span z) CelType-F.Span = true
of_type_step (Value-F.List fs) (CelType-F.List t) = all_of_type fs t
of_type_step (Value-F.Map fs) (CelType-F.Map t) = all_of_type fs t
of_type_step _ _ = false

-- the value has the type; each value has the type dyn
abbrev pub of_type : Value → CelType → Bool
of_type = fold-Value (CelType → Bool) (CelType → Bool) (λ x t. of_type_step x (out-CelType t)) (λ e. e.value)

-- the environment has a value of its type for each declared name
abbrev pub Suits : Decls → Env → Type 0
Suits decls env = (n : List ℕ) (t : CelType) → declared n decls ≡ Some t → (v : Value) × (named n env ≡ Ok v) × (of_type v t ≡ true)

-- the environment has a value for each declared name
abbrev pub BindsAll : Decls → Env → Type 0
BindsAll decls env = (n : List ℕ) (t : CelType) → declared n decls ≡ Some t → (v : Value) × (named n env ≡ Ok v)

-- the errors of an evaluation whose types are right: neither a missing overload nor an unbound name
abbrev pub MayCome : EvalError → Type 0
MayCome error.NoOverload = ⊥
MayCome error.Unbound = ⊥
MayCome error.NoKey = ⊤
MayCome error.Index = ⊤
MayCome error.Overflow = ⊤
MayCome error.Divide = ⊤
MayCome error.BadText = ⊤
MayCome error.TooLong = ⊤

-- a value of the type, or an error that may come where the types are right
abbrev pub RunsWell : CelType → Outcome → Type 0
RunsWell t (Ok v) = of_type v t ≡ true
RunsWell t (Err e) = MayCome e

-- the error is no unbound name
abbrev pub IsNotUnbound : EvalError → Type 0
IsNotUnbound error.Unbound = ⊥
IsNotUnbound error.NoOverload = ⊤
IsNotUnbound error.NoKey = ⊤
IsNotUnbound error.Index = ⊤
IsNotUnbound error.Overflow = ⊤
IsNotUnbound error.Divide = ⊤
IsNotUnbound error.BadText = ⊤
IsNotUnbound error.TooLong = ⊤

-- a value, or an error that is no unbound name
abbrev pub HasNoUnbound : Outcome → Type 0
HasNoUnbound (Ok v) = ⊤
HasNoUnbound (Err e) = IsNotUnbound e
