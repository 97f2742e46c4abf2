-- The least place of an element that passes.
use Rattle.std.proofs.Common.{◌≡◌, ◌⊎◌, inl, inr, ℕ, zero, suc, List, [], ◌∷◌, Bool, true, false, refl, ap, subst, add-one}
use Rattle.std.specs.Prelude.{Option, None, Some, slice_get}
use Rattle.links.specs.Places.{place_of}

pub record FoundAt {A : Type 0} (test : A → Bool) (xs : List A) (place : Option ℕ) : Type 0 where
  pub number : ℕ
  pub element : A
  pub there : slice_get xs number ≡ Some element
  pub passes : test element ≡ true
  pub is : place ≡ Some number

cases_by : {A : Type 0} (test : A → Bool) (x : A) (xs : List A) (passes : Bool) → test x ≡ passes
    → (((n : ℕ) (y : A) → slice_get xs n ≡ Some y → test y ≡ false) × (place_of test xs ≡ None)) ⊎ FoundAt test xs (place_of test xs)
    → (((n : ℕ) (y : A) → slice_get (x ∷ xs) n ≡ Some y → test y ≡ false) × (place_of test (x ∷ xs) ≡ None)) ⊎ FoundAt test (x ∷ xs) (place_of test (x ∷ xs))
cases_by test x xs true is rest = inr (record { number = 0; element = x; there = refl; passes = is; is = rw is refl })
cases_by test x xs false is (inl (none, nowhere)) = inl (at, rw (is, nowhere) refl)
  where
    at : (n : ℕ) (y : _) → slice_get (x ∷ xs) n ≡ Some y → test y ≡ false
    at zero y there = let same : x ≡ y = cc there in subst (λ z. test z ≡ false) same is
    at (suc n) y there = none n y there
cases_by test x xs false is (inr found) = inr (record {
  number = suc found.number;
  element = found.element;
  there = found.there;
  passes = found.passes;
  is = rw (is, found.is) (ap (λ (n : ℕ). Some n) (add-one found.number));
})

pub cases : {A : Type 0} (test : A → Bool) (xs : List A)
    → (((n : ℕ) (x : A) → slice_get xs n ≡ Some x → test x ≡ false) × (place_of test xs ≡ None)) ⊎ FoundAt test xs (place_of test xs)
cases test [] = inl ((λ n x there. cc there), refl)
cases test (x ∷ xs) = cases_by test x xs (test x) refl (cases test xs)
