-- Boundaries that are read are of their forms.
use Rattle.std.proofs.Common.{◌≡◌, ℕ, suc, Bool, true, List, [], ◌∷◌, length, Option, Some, option_map, Ok, refl, sym, ap, ◌∙◌, nat_lt, nat_le, codes, arith}
use Rattle.std.specs.List.{list_all, AllByRecursion}
use Rattle.std.specs.Result.{result_ok}
use Rattle.std.proofs.lemmas.Bool.Decides.{nat_tests}
use Rattle.std.proofs.lemmas.Option.{same_Some, option_and_then_some}
use Rattle.serde_json.specs.Data.{Data, Items, no_items, item}
use Rattle.serde_json.specs.Find.{get, as_str, as_array}
use Rattle.base_types.specs.Forms.{passing}
use Rattle.base_types.specs.Steps.{needed}
use Rattle.iam_names.specs.Cuts.{after}
use Rattle.iam_names.specs.Forms.{is_role, is_resource}
use Rattle.json_text.specs.Arrays.{each, count, short_array, short_list}
use Rattle.json_text.specs.Document.{text_at}
use Rattle.boundary.specs.declared.rules.Rule.{Rule}
use Rattle.boundary.specs.declared.rules.Boundary.{Boundary}
use Rattle.boundary.specs.declared.fault.BoundaryCause.TheVariants.{Shape, TooMany, Resource, Permission, Condition}
use Rattle.boundary.specs.Boundaries.{refusal, available_role, role_of, roles_of, roles_at, resource_at, condition_at, rule_of, rules_from, boundary_in}
use Rattle.boundary.specs.Exact.{is_count, is_rule, is_boundary, AreSaid, IsExactBoundary}
use Rattle.boundary.specs.Written.{listed_boundary}
use Rattle.boundary.proofs.Options.{passing-is, then-passing, option_map_some, bound, needed-is, result_ok-is}

-- ---- a rule

-- 1 to 10
is_count-from : (n : ℕ) → nat_lt 0 n ≡ true → nat_le n 10 ≡ true → is_count n ≡ true
is_count-from n some few = grind (arith, nat_tests)

pub each-formed : {A : Type 0} (form : A → Bool) (read : Data → Option A) → ((d : Data) (x : A) → read d ≡ Some x → form x ≡ true)
    → (ds : Items) (xs : List A) → each read ds ≡ Some xs → (list_all form xs ≡ true) × (length xs ≡ count ds)
each-formed form read is no_items xs h = let same = same_Some [] xs h in (ap (list_all form) (sym same), ap length (sym same))
each-formed form read is (item d ds) xs h =
    option_and_then_some (λ x. option_map (λ more. x ∷ more) (each read ds)) (read d) xs h (λ x there k.
    option_map_some (λ more. x ∷ more) (each read ds) xs k (λ more rest whole.
    let tail = each-formed form read is ds more rest in
    (ap (list_all form) (sym whole) ∙ rw (is d x there, tail.0) refl, ap length (sym whole) ∙ ap suc tail.1)))

role_of-is : (text role : List ℕ) → role_of text ≡ Some role → is_role role ≡ true
role_of-is text role h = (then-passing is_role (after (codes "inRole:") text) role h).1

available_role-is : (d : Data) (role : List ℕ) → available_role d ≡ Some role → is_role role ≡ true
unfolding available_role
available_role-is d role h = option_and_then_some role_of (as_str d) role h (λ text there k. role_of-is text role k)

-- 1 to 10 roles
record AreRoles (roles : List (List ℕ)) : Type 0 where
  few : is_count (length roles) ≡ true
  form : list_all is_role roles ≡ true

roles_of-are : (d : Data) (roles : List (List ℕ)) → roles_of d ≡ Some roles → AreRoles roles
roles_of-are d roles h =
    let some = then-passing (λ (found : List (List ℕ)). nat_lt 0 (length found)) (short_list available_role 10 d) roles h in
    option_and_then_some (each available_role) (short_array 10 d) roles some.0 (λ ds there k.
    let few = (then-passing (λ (found : Items). nat_le (count found) 10) (as_array d) ds there).1 in
    let found = each-formed is_role available_role available_role-is ds roles k in
    record { few = is_count-from (length roles) some.1 (rw found.1 few); form = found.0 })

roles_at-are : (d : Data) (roles : List (List ℕ)) → roles_at d ≡ Some roles → AreRoles roles
roles_at-are d roles h = option_and_then_some roles_of (get (codes "availablePermissions") d) roles h (λ e there k. roles_of-are e roles k)

rule_of-is : (number : ℕ) (d : Data) (rule : Rule) → rule_of number d ≡ Ok rule → is_rule rule ≡ true
unfolding rule_of
rule_of-is number d rule h =
    bound _ (needed (refusal number Resource) (resource_at d)) rule h (λ resource resource_is h.
    bound _ (needed (refusal number Permission) (roles_at d)) rule h (λ roles roles_is h.
    bound _ (needed (refusal number Condition) (condition_at d)) rule h (λ condition condition_is h.
    let named = (then-passing is_resource (text_at (codes "availableResource") d) resource (needed-is _ _ resource resource_is)).1 in
    let are = roles_at-are d roles (needed-is _ _ roles roles_is) in
    let same : record { resource = resource; roles = roles; condition = condition } ≡ rule = cc in
    ap is_rule (sym same) ∙ rw (named, are.few, are.form) refl)))

-- ---- rules

rules_from-are : (number : ℕ) (ds : Items) (rules : List Rule) → rules_from number ds ≡ Ok rules → (list_all is_rule rules ≡ true) × (length rules ≡ count ds)
rules_from-are number no_items rules h = let same : [] ≡ rules = cc in (ap (list_all is_rule) (sym same), ap length (sym same))
rules_from-are number (item d ds) rules h =
    bound _ (rule_of number d) rules h (λ rule there k.
    bound _ (rules_from (suc number) ds) rules k (λ more rest whole.
    let tail = rules_from-are (suc number) ds more rest in
    let same : rule ∷ more ≡ rules = cc in
    (ap (list_all is_rule) (sym same) ∙ rw (rule_of-is number d rule there, tail.0) refl, ap length (sym same) ∙ ap suc tail.1)))

boundary_in-is : (ds : Items) (boundary : Boundary) → boundary_in ds ≡ Ok boundary → is_boundary boundary ≡ true
unfolding boundary_in
boundary_in-is ds boundary h =
    bound _ (needed (refusal 0 Shape) (passing (λ found. nat_lt 0 (count found)) ds)) boundary h (λ some some_is h.
    bound _ (needed (refusal 10 TooMany) (passing (λ found. nat_le (count found) 10) some)) boundary h (λ few few_is h.
    bound _ (rules_from 0 few) boundary h (λ rules rules_are h.
    let there = passing-is (λ (found : Items). nat_lt 0 (count found)) ds some (needed-is _ _ some some_is) in
    let most = passing-is (λ (found : Items). nat_le (count found) 10) some few (needed-is _ _ few few_is) in
    let are = rules_from-are 0 few rules rules_are in
    let same : record { rules = rules } ≡ boundary = cc in
    let size : is_count (length rules) ≡ true = is_count-from (length rules) (rw (are.1, ← most.0) there.1) (rw are.1 most.1) in
    ap is_boundary (sym same) ∙ rw (size, are.0) refl)))

pub listed_boundary-is : (d : Data) (boundary : Boundary) → listed_boundary d ≡ Some boundary → is_boundary boundary ≡ true
unfolding listed_boundary
listed_boundary-is d boundary h =
    option_and_then_some (λ rules. result_ok (boundary_in rules)) (as_array d) boundary h (λ rules there k.
    boundary_in-is rules boundary (result_ok-is (boundary_in rules) boundary k))

pub exact-from : (ds : Items) (boundary : Boundary) → boundary_in ds ≡ Ok boundary → AllByRecursion AreSaid boundary.rules → IsExactBoundary boundary
exact-from ds boundary read are = record { form = boundary_in-is ds boundary read; conditions = are }
