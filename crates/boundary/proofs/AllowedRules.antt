-- A boundary allows exactly where a rule of it does, and a rule where its parts do.
use Rattle.std.proofs.Common.{◌≡◌, ℕ, Bool, true, false, List, [], ◌∷◌, ◌++◌, codes, Option, None, Some, Ok, Err, IfSome, IsSomeAnd, refl, sym, ap, ◌∙◌, Decides}
use Rattle.std.specs.List.{Any, Contains, list_any}
use Rattle.std.specs.Str.{bytes_eq}
use Rattle.std.proofs.lemmas.Bool.{eqb-true, eq-eqb}
use Rattle.std.proofs.lemmas.Bool.Decides.{Decides-or, Decides-and}
use Rattle.std.proofs.lemmas.List.Folds.{Any-from_list_any, list_any-from_Any}
use Rattle.std.proofs.lemmas.Map.Made.{is_member-Decides}
use Rattle.std.proofs.lemmas.Slice.Eq.{bytes_eq-Decides}
use Rattle.base_types.specs.Named.{value_at}
use Rattle.cel_values.specs.declared.value.Value.{Value, out-Value}
use Rattle.cel_values.specs.declared.value.Value.TheOpen.{Value-F}
use Rattle.cel_values.specs.declared.value.Value.TheVariants as value
use Rattle.cel_values.specs.declared.value.Value.TheViews.{roll-Value, out-roll-Value, roll-out-Value}
use Rattle.cel_builtins.specs.Outcomes.{Outcome, Shape}
use Rattle.cel_eval.specs.Denotation.{denotation}
use Rattle.cel_expression.specs.declared.expression.Expression.{Expression}
use Rattle.iam_names.specs.Cuts.{after}
use Rattle.iam_names.specs.Forms.{passes, begins_with}
use Rattle.iam_names.specs.Resource.{covers, is_below}
use Rattle.iam_names.specs.Roles.{holds}
use Rattle.iam_names.proofs.CutLemmas.{after-append, after-sound}
use Rattle.allow_policy.specs.Conditions.{is_true, holds_as, condition_holds, condition_env}
use Rattle.boundary.specs.declared.rules.Rule.{Rule}
use Rattle.boundary.specs.declared.rules.Boundary.{Boundary}
use Rattle.boundary.specs.Allowing.{RoleRows, rule_allows, boundary_allows}
use Rattle.boundary.specs.Allowed.{IsAtOrBelow, HoldsPermission, IsAllowedBy}

-- one element that passes the test, where the test decides
any-Decides : {X : Type 0} (p : X → Bool) (P : X → Type 0) → ((x : X) → Decides (p x) (P x)) → (xs : List X) → Decides (list_any p xs) (Any P xs)
any-Decides p P each xs = (
  λ h. let found = Any-from_list_any p xs h in (found.0, found.1, found.2, found.3, (each found.1).0 found.4),
  λ w. list_any-from_Any p xs (w.0, w.1, w.2, w.3, (each w.1).1 w.4),
)

-- ---- the resource

-- a text that begins with a slash
slash-first : (text : List ℕ) → begins_with 47 text ≡ true → (rest : List ℕ) × (text ≡ codes "/" ++ rest)
slash-first [] h = cc
slash-first (x ∷ text) h = (text, ap (λ (y : ℕ). y ∷ text) (eqb-true x 47 h))

-- what follows the upper text begins with a slash
below-by : (upper lower : List ℕ) (found : Option (List ℕ)) → after upper lower ≡ found → passes (begins_with 47) found ≡ true → (rest : List ℕ) × (lower ≡ upper ++ (codes "/" ++ rest))
below-by upper lower None e h = cc
below-by upper lower (Some text) e h =
    let slash = slash-first text h in
    (slash.0, after-sound upper lower text e ∙ ap (λ (t : List ℕ). upper ++ t) slash.1)

below-Decides : (upper lower : List ℕ) → Decides (is_below upper lower) ((rest : List ℕ) × (lower ≡ upper ++ (codes "/" ++ rest)))
below-Decides upper lower = (
  λ h. below-by upper lower (after upper lower) refl h,
  λ w. ap (λ (t : List ℕ). passes (begins_with 47) (after upper t)) w.1 ∙ ap (passes (begins_with 47)) (after-append upper (codes "/" ++ w.0)) ∙ eq-eqb 47 47 refl,
)

same-Decides : (upper lower : List ℕ) → Decides (bytes_eq upper lower) (lower ≡ upper)
same-Decides upper lower = (λ h. sym ((bytes_eq-Decides upper lower).0 h), λ e. (bytes_eq-Decides upper lower).1 (sym e))

covers-Decides : (upper lower : List ℕ) → Decides (covers upper lower) (IsAtOrBelow upper lower)
covers-Decides upper lower = Decides-or _ _ (same-Decides upper lower) (below-Decides upper lower)

-- ---- a role

among-Decides : (permission : List ℕ) (permissions : List (List ℕ)) → Decides (list_any (bytes_eq permission) permissions) (Contains permissions permission)
among-Decides permission permissions = is_member-Decides bytes_eq-Decides permissions permission

held-Decides : (permission : List ℕ) (found : Option (List (List ℕ))) → Decides (passes (list_any (bytes_eq permission)) found) (IsSomeAnd found (λ permissions. Contains permissions permission))
held-Decides permission None = (λ h. cc, λ w. absurd w)
held-Decides permission (Some permissions) = among-Decides permission permissions

holds-Decides : (roles : RoleRows) (permission role : List ℕ) → Decides (holds roles role permission) (HoldsPermission roles permission role)
holds-Decides roles permission role = held-Decides permission (value_at role roles)

-- ---- the condition

true-value : (v : Value) → out-Value v ≡ Value-F.Bool true → v ≡ value.Bool true
true-value v e = sym (roll-out-Value v) ∙ ap roll-Value e ∙ value.rolls-Bool true

true-shape : (shape : Shape) → is_true shape ≡ true → shape ≡ Value-F.Bool true
true-shape (Value-F.Bool true) e = refl
true-shape (Value-F.Bool false) e = cc
true-shape (Value-F.Text t) e = cc
true-shape Value-F.Null e = cc
true-shape (Value-F.Int z) e = cc
true-shape (Value-F.List vs) e = cc
true-shape (Value-F.Map es) e = cc
true-shape (Value-F.Time z) e = cc
true-shape (Value-F.Span z) e = cc
true-shape Value-F.Opaque e = cc

true-outcome : (outcome : Outcome) → holds_as outcome ≡ true → outcome ≡ Ok (value.Bool true)
true-outcome (Ok v) e = ap Ok (true-value v (true-shape (out-Value v) e))
true-outcome (Err fault) e = cc

outcome-true : (outcome : Outcome) → outcome ≡ Ok (value.Bool true) → holds_as outcome ≡ true
outcome-true outcome e = ap holds_as e ∙ ap is_true (ap out-Value (sym (value.rolls-Bool true)) ∙ out-roll-Value (Value-F.Bool true))

condition-Decides : (condition : Option Expression) (resource : List ℕ) (now : ℕ) → Decides (condition_holds condition resource now) (IfSome condition (λ e. denotation e.tree (condition_env resource now) ≡ Ok (value.Bool true)))
condition-Decides None resource now = (λ h. tt, λ w. refl)
condition-Decides (Some c) resource now = (true-outcome (denotation c.tree (condition_env resource now)), outcome-true (denotation c.tree (condition_env resource now)))

-- ---- rules

rule-Decides : (roles : RoleRows) (permission resource : List ℕ) (now : ℕ) (rule : Rule) → Decides (rule_allows roles permission resource now rule) (IsAllowedBy roles permission resource now rule)
rule-Decides roles permission resource now rule =
    let held = any-Decides (λ role. holds roles role permission) (HoldsPermission roles permission) (holds-Decides roles permission) rule.roles in
    let parts = Decides-and _ _ (covers-Decides rule.resource resource) (Decides-and _ _ held (condition-Decides rule.condition resource now)) in (
      λ h. let all = parts.0 h in record { resource_is = all.0; role = all.1.0; condition = all.1.1 },
      λ w. parts.1 (w.resource_is, (w.role, w.condition)),
    )

pub boundary-Decides : (roles : RoleRows) (boundary : Boundary) (permission resource : List ℕ) (now : ℕ) → Decides (boundary_allows roles boundary permission resource now) (Any (IsAllowedBy roles permission resource now) boundary.rules)
unfolding boundary_allows
boundary-Decides roles boundary permission resource now = any-Decides (rule_allows roles permission resource now) (IsAllowedBy roles permission resource now) (rule-Decides roles permission resource now) boundary.rules
