-- Options and tests.
use Rattle.std.proofs.Common.{◌≡◌, Bool, true, false, ◌&&◌, List, ◌∷◌, Option, None, Some, option_map, refl, sym, ap, ◌∙◌}
use Rattle.std.specs.List.{list_all}
use Rattle.std.proofs.lemmas.Option.{same_Some, cond_some}
use Rattle.base_types.specs.Reading.{◌>>=◌}
use Rattle.access_token.specs.Parts.{formed}

pub both : (a b : Bool) → (a && b) ≡ true → (a ≡ true) × (b ≡ true)
both true b h = (refl, h)
both false b h = cc

pub formed-some : {A : Type 0} (form : A → Bool) (o : Option A) (x : A) → o ≡ Some x → form x ≡ true → formed form o ≡ Some x
formed-some form o x is holds = rw (is, holds) refl

pub formed-is : {A : Type 0} (form : A → Bool) (o : Option A) (x : A) → formed form o ≡ Some x → (o ≡ Some x) × (form x ≡ true)
formed-is form None x h = cc
formed-is form (Some y) x h =
    let parts = cond_some (form y) y x h in
    (ap Some parts.1, ap form (sym parts.1) ∙ parts.0)

pub option_map_some : {A B P : Type 0} (f : A → B) (o : Option A) (y : B) → option_map f o ≡ Some y → ((x : A) → o ≡ Some x → f x ≡ y → P) → P
option_map_some f None y h k = cc
option_map_some f (Some x) y h k = k x refl (same_Some (f x) y h)

-- what a step went on with
pub bound : {A B P : Type 0} (f : A → Option B) (o : Option A) (y : B) → (o >>= f) ≡ Some y → ((x : A) → o ≡ Some x → f x ≡ Some y → P) → P
bound f None y h k = cc
bound f (Some x) y h k = k x refl h

-- one more in front
pub all-more : {A : Type 0} (form : A → Bool) (x : A) (xs : List A) → form x ≡ true → list_all form xs ≡ true → list_all form (x ∷ xs) ≡ true
all-more form x xs one rest = rw (one, rest) refl
