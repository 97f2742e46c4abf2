-- Items and optional members: how they are written and read back, and what they keep of their parts.
use Rattle.std.proofs.Common.{◌≡◌, ◌≤◌, ℕ, max, Bool, true, false, List, [], ◌∷◌, map, Option, None, Some, option_map, option_and_then, IfSome, refl, ap, ◌∙◌, arith}
use Rattle.std.specs.List.{AllByRecursion, list_all}
use Rattle.std.specs.Ordering.{nat_cmp}
use Rattle.std.specs.declared.cmp.Ordering.TheVariants.{Less}
use Rattle.std.specs.Cmp.Lexicographic.{slice_cmp}
use Rattle.std.specs.Str.{IsUtf8}
use Rattle.std.proofs.lemmas.Bool.{and_parts}
use Rattle.serde_json.specs.Data.{Data, Members, array, depth, items_depth, members_depth}
use Rattle.serde_json.specs.View.{view, items_of}
use Rattle.serde_json.specs.Written.{has_float, items_have_float, members_have_float}
use Rattle.serde_json.specs.declared.value.Value.{Value}
use Rattle.json_text.specs.Arrays.{each}
use Rattle.json_text.specs.Clean.{IsClean, AreClean, HasCleanMembers, AreAfter, HasUtf8, ItemsHaveUtf8, MembersHaveUtf8}
use Rattle.boundary.specs.Written.{optional, items}

-- ---- items written one by one, and read back

pub items_mapped : {A : Type 0} (write : A → Data) (xs : List A) → items_of (map write xs) ≡ items write xs
items_mapped write [] = refl
items_mapped write (x ∷ xs) = rw (items_mapped write xs) refl

-- an array of values that were written one by one
pub array_written : {A : Type 0} (write : A → Data) (values : List Value) (xs : List A) → map view values ≡ map write xs
    → array (items_of (map view values)) ≡ array (items write xs)
array_written write values xs is = ap (λ (ds : List Data). array (items_of ds)) is ∙ ap array (items_mapped write xs)

-- a list whose items read back reads back
pub all_back : {A : Type 0} (write : A → Data) (read : Data → Option A) (P : A → Type 0) → ((x : A) → P x → read (write x) ≡ Some x)
    → (xs : List A) → AllByRecursion P xs → each read (items write xs) ≡ Some xs
all_back write read P back [] all = refl
all_back write read P back (x ∷ xs) all =
    ap (λ (o : Option _). option_and_then (λ y. option_map (λ ys. y ∷ ys) (each read (items write xs))) o) (back x all.0)
    ∙ ap (λ (o : Option (List _)). option_map (λ ys. x ∷ ys) o) (all_back write read P back xs all.1)

each_passes : {A : Type 0} (test : A → Bool) (xs : List A) → list_all test xs ≡ true → AllByRecursion (λ x. test x ≡ true) xs
each_passes test [] all = tt
each_passes test (x ∷ xs) all =
    let parts = and_parts (test x) (list_all test xs) all in
    (parts.0, each_passes test xs parts.1)

-- the same, where each passes a test
pub each_back : {A : Type 0} (write : A → Data) (read : Data → Option A) (test : A → Bool) → ((x : A) → test x ≡ true → read (write x) ≡ Some x)
    → (xs : List A) → list_all test xs ≡ true → each read (items write xs) ≡ Some xs
each_back write read test back xs all = all_back write read (λ x. test x ≡ true) back xs (each_passes test xs all)

-- ---- names in order

pub after_optional : (k l : List ℕ) (o : Option Data) (ms : Members) → slice_cmp nat_cmp k l ≡ Less → AreAfter k ms → AreAfter k (optional l o ms)
after_optional k l None ms less all = all
after_optional k l (Some d) ms less all = (less, all)

pub optional_clean : (k : List ℕ) (o : Option Data) (ms : Members) → IfSome o IsClean → HasCleanMembers ms → AreAfter k ms → HasCleanMembers (optional k o ms)
optional_clean k None ms clean rest all = rest
optional_clean k (Some d) ms clean rest all = (clean, rest, all)

pub items_clean : {A : Type 0} (write : A → Data) → ((x : A) → IsClean (write x)) → (xs : List A) → AreClean (items write xs)
items_clean write clean [] = tt
items_clean write clean (x ∷ xs) = (clean x, items_clean write clean xs)

-- ---- how deep they are

unfoldable pub deep : Option Data → ℕ
deep None = 0
deep (Some d) = depth d

pub optional_deep : (k : List ℕ) (o : Option Data) (ms : Members) → members_depth (optional k o ms) ≡ max (deep o) (members_depth ms)
unfolding deep
optional_deep k None ms = omega arith
optional_deep k (Some d) ms = refl

pub items_deep : {A : Type 0} (write : A → Data) (most : ℕ) → ((x : A) → depth (write x) ≤ most) → (xs : List A) → items_depth (items write xs) ≤ most
items_deep write most low [] = omega arith
items_deep write most low (x ∷ xs) = omega (arith, low x, items_deep write most low xs)

-- ---- no floats

pub optional_floatless : (k : List ℕ) (o : Option Data) (ms : Members) → IfSome o (λ d. has_float d ≡ false) → members_have_float ms ≡ false
    → members_have_float (optional k o ms) ≡ false
optional_floatless k None ms none rest = rest
optional_floatless k (Some d) ms none rest = rw (none, rest) refl

pub items_floatless : {A : Type 0} (write : A → Data) → ((x : A) → has_float (write x) ≡ false) → (xs : List A) → items_have_float (items write xs) ≡ false
items_floatless write none [] = refl
items_floatless write none (x ∷ xs) = rw (none x, items_floatless write none xs) refl

-- ---- UTF-8

pub optional_utf8 : (k : List ℕ) (o : Option Data) (ms : Members) → IsUtf8 k → IfSome o HasUtf8 → MembersHaveUtf8 ms → MembersHaveUtf8 (optional k o ms)
optional_utf8 k None ms name some rest = rest
optional_utf8 k (Some d) ms name some rest = (name, some, rest)

pub items_utf8 : {A : Type 0} (write : A → Data) (P : A → Type 0) → ((x : A) → P x → HasUtf8 (write x)) → (xs : List A) → AllByRecursion P xs
    → ItemsHaveUtf8 (items write xs)
items_utf8 write P each [] all = tt
items_utf8 write P each (x ∷ xs) all = (each x all.0, items_utf8 write P each xs all.1)
