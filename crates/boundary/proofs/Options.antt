-- Steps that give something, and what they gave.
use Rattle.std.proofs.Common.{◌≡◌, Bool, true, Option, None, Some, option_map, option_and_then, Result, Ok, Err, refl, sym, ap, ◌∙◌}
use Rattle.std.proofs.lemmas.Option.{same_Some, cond_some}
use Rattle.std.specs.Result.{result_ok}
use Rattle.base_types.specs.Forms.{passing}
use Rattle.base_types.specs.Steps.{◌>>=◌, needed}

pub passing-is : {A : Type 0} (form : A → Bool) (x y : A) → passing form x ≡ Some y → (x ≡ y) × (form y ≡ true)
passing-is form x y h =
    let parts = cond_some (form x) x y h in
    (parts.1, ap form (sym parts.1) ∙ parts.0)

pub then-passing : {A : Type 0} (form : A → Bool) (o : Option A) (y : A) → option_and_then (passing form) o ≡ Some y → (o ≡ Some y) × (form y ≡ true)
then-passing form None y h = cc
then-passing form (Some x) y h =
    let parts = passing-is form x y h in
    (ap Some parts.0, parts.1)

pub option_map_some : {A B P : Type 0} (f : A → B) (o : Option A) (y : B) → option_map f o ≡ Some y → ((x : A) → o ≡ Some x → f x ≡ y → P) → P
option_map_some f None y h k = cc
option_map_some f (Some x) y h k = k x refl (same_Some (f x) y h)

-- what a step went on with
pub bound : {A B E P : Type 0} (f : A → Result B E) (r : Result A E) (y : B) → (r >>= f) ≡ Ok y → ((x : A) → r ≡ Ok x → f x ≡ Ok y → P) → P
bound f (Err e) y h k = cc
bound f (Ok x) y h k = k x refl h

pub needed-is : {A E : Type 0} (fault : E) (o : Option A) (x : A) → needed fault o ≡ Ok x → o ≡ Some x
needed-is fault None x h = cc
needed-is fault (Some y) x h = cc

pub result_ok-is : {A E : Type 0} (r : Result A E) (x : A) → result_ok r ≡ Some x → r ≡ Ok x
result_ok-is (Ok y) x h = cc
result_ok-is (Err e) x h = cc
