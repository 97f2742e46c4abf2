-- Results one after another and under a test: to a value, from a value and from a fault.
use Rattle.std.proofs.Common.{◌≡◌, Bool, true, false, ◌&&◌, Option, None, Some, Ok, Err, cond, refl, ap, ◌∙◌}
use Rattle.base_types.specs.Steps.{◌>>=◌, needed}
use Rattle.cel_types.specs.declared.fault.TypeFault.{TypeFault}
use Rattle.cel_types.specs.Typing.{OrFault}

pub same_ok : {A : Type 0} (x y : A) → (let left : OrFault A = Ok x in left ≡ Ok y) → x ≡ y
same_ok x y h = cc

pub same_some : {A : Type 0} (x y : A) → (let left : Option A = Some x in left ≡ Some y) → x ≡ y
same_some x y h = cc

-- ---- to a value

pub then_ok : {A B : Type 0} (m : OrFault A) (f : A → OrFault B) (x : A) (o : OrFault B) → m ≡ Ok x → f x ≡ o → (m >>= f) ≡ o
then_ok m f x o h k = ap (λ n. n >>= f) h ∙ k

pub test_ok : {A : Type 0} (b : Bool) (x o : OrFault A) → b ≡ true → cond b x o ≡ x
test_ok b x o h = ap (λ c. cond c x o) h

pub both_true : (a b : Bool) → a ≡ true → b ≡ true → (a && b) ≡ true
both_true true b h k = k
both_true false b h k = cc

-- ---- from a value

pub from_bind : {A B Q : Type 0} (m : OrFault A) (f : A → OrFault B) (y : B) → (m >>= f) ≡ Ok y → ((x : A) → m ≡ Ok x → f x ≡ Ok y → Q) → Q
from_bind (Ok x) f y h k = k x refl h
from_bind (Err e) f y h k = absurd (cc)

pub from_test : {A Q : Type 0} (b : Bool) (x : A) (e : TypeFault) (y : A)
    → (let left : OrFault A = cond b (Ok x) (Err e) in left ≡ Ok y) → (b ≡ true → x ≡ y → Q) → Q
from_test true x e y h k = k refl (same_ok x y h)
from_test false x e y h k = absurd (cc)

pub from_needed : {A : Type 0} (o : Option A) (e : TypeFault) (x : A) → needed e o ≡ Ok x → o ≡ Some x
from_needed (Some y) e x h = ap (λ z. Some z) (same_ok y x h)
from_needed None e x h = absurd (cc)

pub and_left : (a b : Bool) → (a && b) ≡ true → a ≡ true
and_left true b h = refl
and_left false b h = cc

pub and_right : (a b : Bool) → (a && b) ≡ true → b ≡ true
and_right true b h = h
and_right false b h = cc

-- ---- from a fault

pub no_fault : {A Q : Type 0} (x : A) (f : TypeFault) → (let left : OrFault A = Ok x in left ≡ Err f) → Q
no_fault x f h = absurd (cc)

pub same_fault : {A : Type 0} (e f : TypeFault) → (let left : OrFault A = Err e in left ≡ Err f) → f ≡ e
same_fault e f h = cc

pub from_fault : {A B Q : Type 0} (m : OrFault A) (g : A → OrFault B) (f : TypeFault) → (m >>= g) ≡ Err f → (m ≡ Err f → Q)
    → ((x : A) → m ≡ Ok x → g x ≡ Err f → Q) → Q
from_fault (Ok x) g f h j k = k x refl h
from_fault (Err e) g f h j k = j (let is : e ≡ f = cc in ap (λ x. Err x) is)

pub test_fault : {A : Type 0} (b : Bool) (x : A) (e f : TypeFault) → (let left : OrFault A = cond b (Ok x) (Err e) in left ≡ Err f) → f ≡ e
test_fault true x e f h = no_fault x f h
test_fault false x e f h = same_fault e f h

pub needed_fault : {A : Type 0} (o : Option A) (e f : TypeFault) → needed e o ≡ Err f → f ≡ e
needed_fault None e f h = same_fault e f h
needed_fault (Some x) e f h = no_fault x f h
