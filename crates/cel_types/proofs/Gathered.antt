-- What rows give, gathered one after another, is their common result.
use Rattle.std.proofs.Common.{◌≡◌, ℕ, Bool, true, false, ◌&&◌, nat_eq, List, [], ◌∷◌, Option, None, Some, cond, if◌then◌else◌, refl, ap, ◌∙◌}
use Rattle.cel_builtins.specs.declared.function.Function.{Function}
use Rattle.cel_types.specs.declared.rows.Results.{Results}
use Rattle.cel_types.specs.declared.cel_type.CelType.{CelType}
use Rattle.cel_types.specs.Rows.{type_of_result, all_are, common}

-- one more result
abbrev pub gather : Results → ℕ → Results
gather Results.Nothing k = Results.One k
gather (Results.One j) k = if nat_eq k j then Results.One j else Results.Several
gather Results.Several k = Results.Several

-- more results, one after another
abbrev pub gather_all : Results → List ℕ → Results
gather_all r [] = r
gather_all r (k ∷ ks) = gather_all (gather r k) ks

-- the type of what is gathered
abbrev pub gathered_type : Function → Results → Option CelType
gathered_type f Results.Nothing = None
gathered_type f (Results.One k) = Some (type_of_result f k)
gathered_type f Results.Several = Some CelType.Dyn

several : (ks : List ℕ) → gather_all Results.Several ks ≡ Results.Several
several [] = refl
several (k ∷ ks) = several ks

one_at : (b : Bool) (j : ℕ) (ks : List ℕ) → gather_all (Results.One j) ks ≡ cond (all_are j ks) (Results.One j) Results.Several
    → gather_all (cond b (Results.One j) Results.Several) ks ≡ cond (b && all_are j ks) (Results.One j) Results.Several
one_at true j ks h = h
one_at false j ks h = several ks

one : (j : ℕ) (ks : List ℕ) → gather_all (Results.One j) ks ≡ cond (all_are j ks) (Results.One j) Results.Several
one j [] = refl
one j (k ∷ ks) = one_at (nat_eq k j) j ks (one j ks)

chosen : (b : Bool) (f : Function) (k : ℕ) → gathered_type f (cond b (Results.One k) Results.Several) ≡ cond b (Some (type_of_result f k)) (Some CelType.Dyn)
chosen true f k = refl
chosen false f k = refl

pub gathered_common : (f : Function) (ks : List ℕ) → gathered_type f (gather_all Results.Nothing ks) ≡ common f ks
gathered_common f [] = refl
gathered_common f (k ∷ ks) = ap (gathered_type f) (one k ks) ∙ chosen (all_are k ks) f k
